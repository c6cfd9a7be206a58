use Rattle.std.proofs.Common.{◌≡◌, ◌-◌, drop, length}
use Rattle.mc_timeline_why.specs.TimelineWhyText.{next_place}
use Rattle.mc_timeline_why.proofs.order.next_request.Given as goal

abbrev pub invariant-places : goal.invariant-places
invariant-places l = next_place l.client l.place (drop l.place l.notes) ≡ next_place l.client l.from (drop l.from l.notes)

abbrev pub decreases-places : goal.decreases-places
decreases-places l = length l.notes - l.place
