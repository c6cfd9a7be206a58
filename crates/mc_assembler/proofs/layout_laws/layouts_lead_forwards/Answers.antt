use Rattle.mc_assembler.proofs.LeadingForwards.{layouts_lead_forwards}
use Rattle.mc_assembler.proofs.layout_laws.layouts_lead_forwards.Goals as goal

pub returns : goal.returns
returns c = layouts_lead_forwards
