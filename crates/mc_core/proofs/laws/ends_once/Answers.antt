use Rattle.mc_core.proofs.FoldLemmas.{ends_once}
use Rattle.mc_core.proofs.laws.ends_once.Goals as goal

pub returns : goal.returns
returns c = ends_once
