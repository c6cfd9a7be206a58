use Rattle.mc_code.proofs.SameKinds.{edges_lead_alike}
use Rattle.mc_code.proofs.number_laws.edges_lead_alike.Goals as goal

pub returns : goal.returns
returns c = edges_lead_alike
