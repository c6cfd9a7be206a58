use Rattle.mc_timeline_of.proofs.Explaining.{are_the_same}
use Rattle.mc_timeline_of.proofs.laws.explanations_are_the_same.Goals as goal

pub returns : goal.returns
returns c = are_the_same
