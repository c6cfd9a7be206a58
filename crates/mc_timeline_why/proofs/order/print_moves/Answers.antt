use Rattle.std.proofs.Common.{◌++◌, ap}
use Rattle.mc_timeline_why.specs.{Cursors.places_in, TimelineWhyText.Places, TimelineWhyText.order_text}
use Rattle.mc_timeline_why.proofs.MoveLines.{from_start, moves_on}
use Rattle.mc_timeline_why.proofs.order.print_moves.Goals as goal

pub moves-init : goal.moves-init
moves-init c = ap (λ (p : Places). c.args.out.now.items ++ order_text c.args.notes.now p c.args.moves.now) from_start

pub moves-preserved : goal.moves-preserved
moves-preserved c =
    moves_on c.args.notes.now c.args.moves.now c.moves.by-index _ (places_in c.moves.places) _ c.moves.out.items _ _ c.moves-test.true
    c.in_ok-print_move.ensures.text c.in_ok-print_move.ensures.places c.moves.invariant
