use Rattle.mc_core.proofs.FoldLemmas.{folds_repeat}
use Rattle.mc_core.proofs.laws.folds_repeat.Goals as goal

pub returns : goal.returns
returns c = folds_repeat
