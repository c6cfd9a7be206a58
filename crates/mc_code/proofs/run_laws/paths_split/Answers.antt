use Rattle.mc_code.proofs.PathLemmas.{paths_split}
use Rattle.mc_code.proofs.run_laws.paths_split.Goals as goal

pub returns : goal.returns
returns c = paths_split
