use Rattle.mc_timeline.proofs.Walks.{are_walks}
use Rattle.mc_timeline.proofs.laws.linearizations_are_walks.Goals as goal

pub returns : goal.returns
returns c = are_walks
