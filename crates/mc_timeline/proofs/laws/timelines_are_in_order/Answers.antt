use Rattle.mc_timeline.proofs.TimelineOrder.{are_ordered}
use Rattle.mc_timeline.proofs.laws.timelines_are_in_order.Goals as goal

pub returns : goal.returns
returns c = are_ordered
