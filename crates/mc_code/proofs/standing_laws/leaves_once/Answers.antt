use Rattle.mc_code.proofs.StandingLemmas.{leaves_once}
use Rattle.mc_code.proofs.standing_laws.leaves_once.Goals as goal

pub returns : goal.returns
returns c = leaves_once
