use Rattle.mc_code.proofs.RunLemmas.{complete_ends}
use Rattle.mc_code.proofs.run_laws.complete_paths_end.Goals as goal

pub returns : goal.returns
returns c = complete_ends
