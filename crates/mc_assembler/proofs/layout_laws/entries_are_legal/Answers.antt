use Rattle.mc_assembler.proofs.LeadingForwards.{entries_are_legal}
use Rattle.mc_assembler.proofs.layout_laws.entries_are_legal.Goals as goal

pub returns : goal.returns
returns c = entries_are_legal
