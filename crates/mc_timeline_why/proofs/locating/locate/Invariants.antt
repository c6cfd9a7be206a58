use Rattle.std.proofs.Common.{◌≤◌, ◌-◌, length}
use Rattle.mc_linearize.specs.{Claims.ExplainsTimeline, Verdicts.IsUnexplained}
use Rattle.mc_timeline_why.specs.Fronts.{front}
use Rattle.mc_timeline_why.proofs.locating.locate.Given as goal

abbrev pub invariant-halving : goal.invariant-halving
invariant-halving l = record {
  order : l.explained ≤ l.unexplained;
  within : l.unexplained ≤ length l.timeline;
  before : ExplainsTimeline (front l.key l.explained l.timeline) l.explanation;
  none : IsUnexplained (front l.key l.unexplained l.timeline);
}

abbrev pub decreases-halving : goal.decreases-halving
decreases-halving l = l.unexplained - l.explained
