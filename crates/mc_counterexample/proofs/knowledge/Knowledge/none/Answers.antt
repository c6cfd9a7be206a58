use Rattle.std.proofs.Common.{refl}
use Rattle.mc_script.specs.declared.limits.TheConstants.{VARIABLES_LIMIT}
use Rattle.mc_counterexample.proofs.KindStates.{nothing_known}
use Rattle.mc_counterexample.proofs.knowledge.Knowledge.none.Goals as goal

pub returns : goal.returns
returns c code few = nothing_known code _ VARIABLES_LIMIT few refl refl
