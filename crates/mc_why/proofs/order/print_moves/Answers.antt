use Rattle.mc_why.proofs.MoveLines.{moves_on}
use Rattle.mc_why.proofs.order.print_moves.Goals as goal

pub moves-preserved : goal.moves-preserved
moves-preserved c =
    moves_on c.args.before.now.sections c.args.moves.now c.moves.index _ _ _ _ c.moves-test.true c.in_ok-print_move.ensures c.moves.invariant
