use Rattle.std.proofs.Common.{◌≡◌, take}
use Rattle.mc_protocol.specs.declared.actor.Actor.TheVariants as actor
use Rattle.mc_command.specs.Overlaps.{is_outstanding, overlaps}
use Rattle.mc_command.proofs.overlap.overlaps.Given as goal

abbrev pub invariant-notes : goal.invariant-notes
invariant-notes l = record {
  a : l.a ≡ is_outstanding actor.A (take l.noted-index l.notes);
  b : l.b ≡ is_outstanding actor.B (take l.noted-index l.notes);
  found : l.found ≡ overlaps (take l.noted-index l.notes);
}
