use Rattle.std.proofs.Common.{◌≡◌, ◌++◌, drop, map, take, vec_len}
use Rattle.std.specs.List.{concat}
use Rattle.mc_protocol.proofs.render.append_each.Given as goal

abbrev pub invariant-pieces : goal.invariant-pieces
invariant-pieces l =
    (l.out.items ++ concat (map (λ p. p.now) (drop l.piece-index l.pieces)) ≡ l.fn.out.items ++ concat (map (λ p. p.now) l.fn.pieces))
    × (take (vec_len l.fn.out) l.out.items ≡ l.fn.out.items)
