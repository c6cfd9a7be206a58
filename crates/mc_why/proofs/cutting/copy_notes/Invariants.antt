use Rattle.std.proofs.Common.{◌≡◌, take}
use Rattle.mc_why.proofs.cutting.copy_notes.Given as goal

abbrev pub invariant-copying : goal.invariant-copying
invariant-copying l = l.copies.items ≡ take l.actor-index l.notes
