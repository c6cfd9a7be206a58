use Rattle.mc_code.proofs.Stopping.{stop_once}
use Rattle.mc_code.proofs.run_laws.sections_stop_once.Goals as goal

pub returns : goal.returns
returns c = stop_once
