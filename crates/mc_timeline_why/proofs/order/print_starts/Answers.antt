use Rattle.mc_timeline_why.proofs.MoveLines.{starts_on}
use Rattle.mc_timeline_why.proofs.order.print_starts.Goals as goal

pub starts-preserved : goal.starts-preserved
starts-preserved c =
    let printed = c.in_ok-print_start.ensures in
    starts_on c.args.out.now.items _ _ c.args.starts.now c.starts.key-index c.starts-item.result c.starts-item.result c.starts-test.true
    c.starts-item.is c.starts.invariant (rw c.as_slice.ensures at printed)
