use Rattle.mc_linearize.proofs.Simulating.{hopeless_unexplained}
use Rattle.mc_linearize.proofs.laws.hopeless_is_unexplained.Goals as goal

pub returns : goal.returns
returns c = hopeless_unexplained
