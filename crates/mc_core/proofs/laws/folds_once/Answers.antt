use Rattle.mc_core.proofs.FoldLemmas.{folds_once}
use Rattle.mc_core.proofs.laws.folds_once.Goals as goal

pub returns : goal.returns
returns c = folds_once
