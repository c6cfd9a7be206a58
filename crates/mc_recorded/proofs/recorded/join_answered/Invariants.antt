use Rattle.std.specs.Prelude.{◌≡◌, take}
use Rattle.mc_recorded.specs.Recorded.{joined_text, answered_of}
use Rattle.mc_recorded.proofs.recorded.join_answered.Given as goal

abbrev pub invariant-joining : goal.invariant-joining
invariant-joining l = l.text.items ≡ joined_text (answered_of (take l.sent-index l.requests))
