use Rattle.mc_code.proofs.StandingLemmas.{calls_once}
use Rattle.mc_code.proofs.standing_laws.calls_once.Goals as goal

pub returns : goal.returns
returns c = calls_once
