use Rattle.mc_timeline_why.proofs.MoveLines.{numbers_on}
use Rattle.mc_timeline_why.proofs.report.print_numbers.Goals as goal

pub lines-preserved : goal.lines-preserved
lines-preserved c =
    numbers_on c.args.out.now.items _ _ c.args.lines.now c.lines.line-index _ c.lines-test.true c.lines.invariant c.in_ok-print_number.ensures
