use Rattle.mc_generate.specs.Shrunk.{IsShrinking}
use Rattle.mc_generate.proofs.shrinking.shrink.Given as goal

abbrev pub invariant-rounds : goal.invariant-rounds
invariant-rounds g l = IsShrinking l.fn.script l.shrinker

abbrev pub decreases-rounds : goal.decreases-rounds
decreases-rounds g l = l.shrinker.rounds
