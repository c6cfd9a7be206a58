use Rattle.mc_code.proofs.MadeCalls.{right_runs_are_called}
use Rattle.mc_code.proofs.standing_laws.right_runs_are_called.Goals as goal

pub returns : goal.returns
returns c = right_runs_are_called
