use Rattle.std.proofs.Common.{◌≡◌, ◌++◌, take, map}
use Rattle.std.specs.List.{concat}
use Rattle.mc_server.proofs.blocks.append_all.Given as goal

-- what was appended are the pieces so far
abbrev pub invariant-pieces : goal.invariant-pieces
invariant-pieces l = l.out.items ≡ l.fn.out.items ++ concat (map (λ p. p.now) (take l.piece-index l.pieces))
