use Rattle.std.proofs.Common.{◌≡◌, ◌++◌, take}
use Rattle.std.specs.List.{flat_map}
use Rattle.mc_history.specs.PrintedHistory.{line_text}
use Rattle.mc_timeline_text.specs.TimelineTexts.{client_move_words}
use Rattle.mc_timeline_text.proofs.print.print_moves.Given as goal

abbrev pub invariant-moves : goal.invariant-moves
invariant-moves l = l.out.items ≡ l.initial.out.items ++ flat_map (λ move. line_text (client_move_words move)) (take l.next-index l.moves)
