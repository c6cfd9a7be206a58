use Rattle.std.proofs.Common.{◌≤◌, length}
use Rattle.mc_core.specs.{Held.IsHeldBy, Safety.AreSmall, Steps.IsFold, Worlds.new_world}
use Rattle.mc_core.proofs.driving.drive.Given as goal

abbrev pub invariant-driving : goal.invariant-driving
invariant-driving l = record {
  held : IsHeldBy l.checked.code l.world;
  fold : IsFold l.checked.code new_world l.yielded l.world.world l.skipped;
  small : AreSmall l.world.world.notes;
  few : l.skipped ≤ length l.yielded;
}
