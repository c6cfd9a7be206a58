use Rattle.mc_model.proofs.NoteFaults.{nothing_noted}
use Rattle.mc_model.proofs.noted_builder.NotedBuilder.new.Goals as goal

pub invariant_of-result : goal.invariant_of-result
invariant_of-result c = (rw c.new-2.ensures.items nothing_noted, rw c.new-2.ensures.items c.new.ensures)
