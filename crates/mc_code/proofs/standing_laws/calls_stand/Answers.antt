use Rattle.mc_code.proofs.MadeCalls.{calls_stand}
use Rattle.mc_code.proofs.standing_laws.calls_stand.Goals as goal

pub returns : goal.returns
returns c = calls_stand
