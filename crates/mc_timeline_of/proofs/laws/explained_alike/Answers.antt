use Rattle.mc_timeline_of.proofs.Explaining.{are_explained_alike}
use Rattle.mc_timeline_of.proofs.laws.explained_alike.Goals as goal

pub returns : goal.returns
returns c = are_explained_alike
