use Rattle.std.proofs.Common.{◌-◌, ◌≤◌, length}
use Rattle.mc_timeline.specs.Queues.{NoNextCameBefore}
use Rattle.mc_linearize.specs.Standing.{left_by}
use Rattle.mc_linearize.proofs.standing.settled.Given as goal

abbrev pub invariant-places : goal.invariant-places
invariant-places l = record {
  none : NoNextCameBefore l.place (left_by l.queues l.counts);
  within : l.place ≤ length l.notes;
}

abbrev pub decreases-places : goal.decreases-places
decreases-places l = length l.notes - l.place
