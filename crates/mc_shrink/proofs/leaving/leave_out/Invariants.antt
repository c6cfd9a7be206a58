use Rattle.std.proofs.Common.{◌+◌, ◌*◌, ◌<◌, ◌≤◌, length}
use Rattle.mc_shrink.specs.Going.{IsLeft}
use Rattle.mc_shrink.proofs.leaving.leave_out.Given as goal

abbrev pub invariant-places : goal.invariant-places
invariant-places l = record {
  left : IsLeft l.whole l.left.goes.items l.left.part;
  end : l.end ≤ length l.may;
  size : 0 < l.end → 0 < l.size;
}

-- a step that leaves out its places doubles the size, and any other one halves it or goes on by one place
abbrev pub decreases-places : goal.decreases-places
decreases-places l = 3 * l.end + l.size
