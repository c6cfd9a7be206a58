use Rattle.std.specs.Prelude.{◌≡◌, take}
use Rattle.mc_core.proofs.replaying.copy_notes.Given as goal

abbrev pub invariant-copying : goal.invariant-copying
invariant-copying l = l.copies.items ≡ take l.actor-index l.notes
