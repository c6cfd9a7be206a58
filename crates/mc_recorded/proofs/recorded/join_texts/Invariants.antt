use Rattle.std.specs.Prelude.{◌≡◌, take}
use Rattle.mc_recorded.specs.Recorded.{joined_text}
use Rattle.mc_recorded.proofs.recorded.join_texts.Given as goal

abbrev pub invariant-joining : goal.invariant-joining
invariant-joining l = l.text.items ≡ joined_text (take l.sent-index l.requests)
