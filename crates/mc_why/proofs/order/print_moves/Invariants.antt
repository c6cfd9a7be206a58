use Rattle.std.proofs.Common.{◌≡◌, ◌++◌, [], drop, take}
use Rattle.mc_why.specs.WhyText.{order_text}
use Rattle.mc_why.proofs.order.print_moves.Given as goal

abbrev pub invariant-moves : goal.invariant-moves
invariant-moves l =
    l.out.items ++ order_text l.before.sections (take l.index l.moves) (drop l.index l.moves)
    ≡ l.initial.out.items ++ order_text l.before.sections [] l.moves
