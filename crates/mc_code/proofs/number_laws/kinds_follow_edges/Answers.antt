use Rattle.mc_code.proofs.SameKinds.{kinds_follow_edges}
use Rattle.mc_code.proofs.number_laws.kinds_follow_edges.Goals as goal

pub returns : goal.returns
returns c = kinds_follow_edges
