use Rattle.std.proofs.Common.{◌≡◌, drop}
use Rattle.mc_script_text.specs.Reading.{label_for}
use Rattle.mc_script_text.proofs.resolve.label_for.Given as goal

abbrev pub invariant-jumps : goal.invariant-jumps
invariant-jumps l = label_for l.class (drop l.other-index l.jumps) ≡ label_for l.fn.class l.fn.jumps
