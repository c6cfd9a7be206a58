-- What the outputs of a generator say of a branch. Each number that is drawn takes one output.
use Rattle.std.specs.Prelude.{ℕ, zero, suc, ◌+◌, ◌==◌, List, [], ◌∷◌, if◌then◌else◌}
use Rattle.mc_generate.specs.{declared.piece.Piece.Piece, Outputs.Outputs, Outputs.rest, Outputs.draw}
use Rattle.mc_generate.specs.declared.piece.Piece.TheVariants as piece

-- the piece of this row of the table on this key, its argument drawn where it has one; and the outputs after it
abbrev pub row_in : ℕ → ℕ → Outputs → Piece × Outputs
row_in row key outputs =
    if row == 0 then (piece.Set key (draw 100 outputs), rest outputs)
    else (if row == 1 then (piece.Add key (draw 100 outputs), rest outputs)
    else (if row == 2 then (piece.Append key (draw 10 outputs), rest outputs)
    else (if row == 3 then (piece.Incr key (1 + draw 9 outputs), rest outputs)
    else (if row == 4 then (piece.Decr key (1 + draw 9 outputs), rest outputs)
    else (if row == 5 then (piece.Delete key, outputs)
    else (if row == 6 then (piece.Get key, outputs)
    else (piece.Swap key (draw 100 outputs), rest outputs)))))))

-- a piece: its row is drawn, then its key, then its argument where it has one
abbrev pub piece_in : Outputs → Piece × Outputs
piece_in outputs = row_in (draw 8 outputs) (draw 2 (rest outputs)) (rest (rest outputs))

-- this many pieces, one after the other, and the outputs after them
abbrev pub pieces_in : ℕ → Outputs → List Piece × Outputs
pieces_in zero outputs = ([], outputs)
pieces_in (suc n) outputs =
    let first = piece_in outputs in
    let others = pieces_in n first.1 in (first.0 ∷ others.0, others.1)

-- a branch: one to three pieces
abbrev pub branch_in : Outputs → List Piece × Outputs
branch_in outputs = pieces_in (1 + draw 3 outputs) (rest outputs)
