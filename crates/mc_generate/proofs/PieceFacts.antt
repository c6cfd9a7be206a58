-- What is so of each piece that outputs say: it has one of two keys, and a number of at most two digits.
use Rattle.std.proofs.Common.{◌≡◌, ℕ, zero, suc, ◌+◌, ◌<◌, ◌==◌, Bool, true, false, List, [], ◌∷◌, length, refl, ap, arith}
use Rattle.std.specs.Prelude.{if◌then◌else◌}
use Rattle.mc_generate.specs.{declared.piece.Piece.Piece, Outputs.Outputs, Outputs.rest, Outputs.draw, Pieces.row_in, Pieces.piece_in, Pieces.pieces_in}
use Rattle.mc_generate.specs.declared.piece.Piece.TheVariants as piece

abbrev pub key_of : Piece → ℕ
key_of (piece.Set key body) = key
key_of (piece.Add key body) = key
key_of (piece.Append key body) = key
key_of (piece.Incr key amount) = key
key_of (piece.Decr key amount) = key
key_of (piece.Delete key) = key
key_of (piece.Get key) = key
key_of (piece.Swap key body) = key

abbrev pub number_of : Piece → ℕ
number_of (piece.Set key body) = body
number_of (piece.Add key body) = body
number_of (piece.Append key body) = body
number_of (piece.Incr key amount) = amount
number_of (piece.Decr key amount) = amount
number_of (piece.Delete key) = 0
number_of (piece.Get key) = 0
number_of (piece.Swap key body) = body

pub record IsPiece (p : Piece) : Type 0 where
  pub key : key_of p < 2
  pub number : number_of p < 100

abbrev pub ArePieces : List Piece → Type 0
ArePieces [] = Unit {0}
ArePieces (p ∷ pieces) = IsPiece p × ArePieces pieces

-- it is one request
abbrev pub IsSingle : Piece → Type 0
IsSingle (piece.Swap key body) = ⊥
IsSingle _ = Unit {0}

-- ---- a row

record IsRow (r : Piece × Outputs) : Type 0 where
  piece : IsPiece r.0

either : (b : Bool) {x y : Piece × Outputs} → IsRow x → IsRow y → IsRow (if b then x else y)
either true h k = h
either false h k = k

row-piece : (row key : ℕ) (outputs : Outputs) → key < 2 → IsRow (row_in row key outputs)
row-piece row key outputs k =
    let body : draw 100 outputs < 100 = omega arith in
    let short : draw 10 outputs < 100 = omega arith in
    let amount : 1 + draw 9 outputs < 100 = omega arith in
    let none : 0 < 100 = omega arith in
    either (row == 0) (record { piece = record { key = k; number = body } })
    (either (row == 1) (record { piece = record { key = k; number = body } })
    (either (row == 2) (record { piece = record { key = k; number = short } })
    (either (row == 3) (record { piece = record { key = k; number = amount } })
    (either (row == 4) (record { piece = record { key = k; number = amount } })
    (either (row == 5) (record { piece = record { key = k; number = none } })
    (either (row == 6) (record { piece = record { key = k; number = none } })
    (record { piece = record { key = k; number = body } })))))))

-- ---- pieces

pub are-pieces : (n : ℕ) (outputs : Outputs) → ArePieces (pieces_in n outputs).0
are-pieces zero outputs = tt
are-pieces (suc n) outputs =
    ((row-piece (draw 8 outputs) (draw 2 (rest outputs)) (rest (rest outputs)) (omega arith)).piece, are-pieces n (piece_in outputs).1)

pub length-pieces : (n : ℕ) (outputs : Outputs) → length (pieces_in n outputs).0 ≡ n
length-pieces zero outputs = refl
length-pieces (suc n) outputs = ap suc (length-pieces n (piece_in outputs).1)
