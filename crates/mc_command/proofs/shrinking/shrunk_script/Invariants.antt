use Rattle.mc_generate.specs.{Generated.generated, Shrunk.IsShrinking}
use Rattle.mc_command.proofs.shrinking.shrunk_script.Given as goal

abbrev pub invariant-rounds : goal.invariant-rounds
invariant-rounds g l = IsShrinking (generated l.campaign.seed l.job) l.shrinker

abbrev pub decreases-rounds : goal.decreases-rounds
decreases-rounds g l = l.shrinker.rounds
