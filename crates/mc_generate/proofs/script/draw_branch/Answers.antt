use Rattle.std.proofs.Common.{ℕ, ◌+◌, arith}
use Rattle.mc_generate.specs.{Outputs.outputs_of, Pieces.pieces_in, Generated.branch_of}
use Rattle.mc_generate.proofs.Drawn.{piece-more}
use Rattle.mc_generate.proofs.script.draw_branch.Goals as goal

pub pieces-preserved : goal.pieces-preserved
pieces-preserved c =
    let count : ℕ = 1 + c.draw-count.result in
    let all = pieces_in count (outputs_of c.draw-count.new.generator) in
    piece-more c.pieces.index count (outputs_of c.pieces.generator) (outputs_of c.draw_piece-piece.new.generator) all.1
    c.draw_piece-piece.result c.pieces.branch c.push_piece.new.branch (branch_of all.0) (omega arith) c.draw_piece-piece.ensures
    c.in_ok-push_piece.ensures c.pieces.invariant
