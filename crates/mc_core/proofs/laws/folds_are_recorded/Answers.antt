use Rattle.mc_core.proofs.HistorySteps.{folds_recorded}
use Rattle.mc_core.proofs.laws.folds_are_recorded.Goals as goal

pub returns : goal.returns
returns c = folds_recorded
