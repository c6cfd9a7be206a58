use Rattle.std.proofs.Common.{◌≡◌, ◌++◌, take}
use Rattle.std.specs.Prelude.{flat_map}
use Rattle.mc_hints.specs.Refusals.{reply_line}
use Rattle.mc_hints.proofs.refusal.append_run.Given as goal

abbrev pub invariant-replies : goal.invariant-replies
invariant-replies l = l.text.items ≡ l.initial.text.items ++ flat_map reply_line (take l.section-index l.shown)
