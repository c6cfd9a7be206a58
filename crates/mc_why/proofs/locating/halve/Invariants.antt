use Rattle.std.proofs.Common.{◌≤◌, ◌-◌}
use Rattle.mc_claims.specs.Explains.{Explains}
use Rattle.mc_explain.specs.Hopeless.{IsUnexplained}
use Rattle.mc_why.specs.Cuts.{cut}
use Rattle.mc_why.proofs.locating.halve.Given as goal

abbrev pub invariant-halving : goal.invariant-halving
invariant-halving l = record {
  order : l.explained ≤ l.unexplained;
  within : l.unexplained ≤ l.count;
  before : Explains (cut l.explained l.history) l.explanation;
  none : IsUnexplained (cut l.unexplained l.history);
}

abbrev pub decreases-halving : goal.decreases-halving
decreases-halving l = l.unexplained - l.explained
