use Rattle.mc_timeline.proofs.InOrder.{order_kept}
use Rattle.mc_timeline.proofs.laws.restrictions_keep_order.Goals as goal

pub returns : goal.returns
returns c = order_kept
