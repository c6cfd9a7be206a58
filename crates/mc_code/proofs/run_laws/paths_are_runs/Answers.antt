use Rattle.mc_code.proofs.RunLemmas.{paths_run}
use Rattle.mc_code.proofs.run_laws.paths_are_runs.Goals as goal

pub returns : goal.returns
returns c = paths_run
