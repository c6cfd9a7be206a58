use Rattle.mc_rounds.proofs.Alike.{seeds-tell}
use Rattle.mc_rounds.proofs.laws.seeds_tell_requests.Goals as goal

pub returns : goal.returns
returns c = seeds-tell
