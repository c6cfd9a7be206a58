use Rattle.mc_code.proofs.StandingLemmas.{calls_open}
use Rattle.mc_code.proofs.standing_laws.calls_open.Goals as goal

pub returns : goal.returns
returns c = calls_open
