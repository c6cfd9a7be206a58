-- How a branch grows by its pieces, one after the other. No public contract cites these.
use Rattle.std.specs.Prelude.{ℕ, ◌+◌, List, [], ◌∷◌, ◌++◌, length}
use Rattle.mc_script.specs.Script.{Section}
use Rattle.mc_generate.specs.{declared.piece.Piece.Piece, Generated.label_name, Generated.steps_of}
use Rattle.mc_generate.specs.declared.piece.Piece.TheVariants as piece

-- the section with the steps of the piece with this index after its own; the label of a swap stands after them
abbrev pub with_piece : ℕ → Piece → Section → Section
with_piece index (piece.Swap key body) s = record {
  budget = s.budget;
  steps = s.steps ++ steps_of (length s.labels) (piece.Swap key body);
  labels = s.labels ++ record { name = label_name index; place = length s.steps + 2 } ∷ [];
}
with_piece index p s = record s { steps = s.steps ++ steps_of (length s.labels) p }

-- the same with these pieces, the first of which has this index
abbrev pub with_pieces : ℕ → List Piece → Section → Section
with_pieces index [] s = s
with_pieces index (p ∷ pieces) s = with_pieces (index + 1) pieces (with_piece index p s)
