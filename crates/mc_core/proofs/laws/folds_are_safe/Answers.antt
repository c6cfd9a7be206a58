use Rattle.mc_core.proofs.Safe.{folds_safe}
use Rattle.mc_core.proofs.laws.folds_are_safe.Goals as goal

pub returns : goal.returns
returns c = folds_safe
