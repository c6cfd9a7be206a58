use Rattle.std.proofs.Common.{◌≡◌, ◌++◌, drop}
use Rattle.mc_timeline_why.specs.{Cursors.places_in, TimelineWhyText.order_text}
use Rattle.mc_timeline_why.proofs.order.print_moves.Given as goal

abbrev pub invariant-moves : goal.invariant-moves
invariant-moves l =
    l.out.items ++ order_text l.notes (places_in l.places) (drop l.by-index l.moves) ≡ l.initial.out.items ++ order_text l.notes (λ client. 0) l.moves
