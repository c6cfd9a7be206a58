use Rattle.std.proofs.Common.{◌≡◌, take}
use Rattle.mc_timeline_of.specs.SameNotes.{of_clients}
use Rattle.mc_timeline_of.proofs.making.timeline_of_notes.Given as goal

-- the notes so far
abbrev pub invariant-noting : goal.invariant-noting
invariant-noting l = l.builder ≡ of_clients (take l.actor-index l.notes)
