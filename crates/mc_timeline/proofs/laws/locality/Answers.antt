use Rattle.mc_timeline.proofs.Joining.{is_local}
use Rattle.mc_timeline.proofs.laws.locality.Goals as goal

pub returns : goal.returns
returns c = is_local
