use Rattle.std.proofs.Common.{false, refl}
use Rattle.mc_history.specs.PrintedHistory.{line_text}
use Rattle.mc_history.proofs.PrintedLines.{printed_more}
use Rattle.mc_linearize.specs.declared.explanation.TimelineMove.{TimelineMove}
use Rattle.mc_timeline_text.specs.TimelineTexts.{client_move_words}
use Rattle.mc_timeline_text.proofs.print.print_moves.Goals as goal

pub moves-preserved : goal.moves-preserved
moves-preserved c =
    let none : TimelineMove = record { client = 0; choice = record { pad = false; read = false }; number = 0 } in
    (printed_more (λ (move : TimelineMove). line_text (client_move_words move)) (λ _. Unit {0}) c.args.out.now.items _ _ c.args.moves.now
    c.moves.next-index _ none c.moves-test.true refl (c.moves.invariant, λ k d l. tt) c.in_ok-print_move.ensures tt).0
