-- What is made of drawn pieces, one after the other, is the script that the outputs say.
use Rattle.std.proofs.Common.{◌≡◌, ℕ, suc, ◌+◌, ◌-◌, ◌<◌, List, [], ◌∷◌, ◌++◌, length}
use Rattle.std.proofs.Common.{refl, sym, ap, subst, ◌∙◌, arith, append_assoc, length-append}
use Rattle.std.proofs.lemmas.List.{append-nil}
use Rattle.mc_script.specs.{Script.Names, Script.Section, declared.section.Label.Label}
use Rattle.rand_pcg.specs.{Lcg.Lcg, Lcg.started, Lcg.increment_of, Pcg.multiplier_64}
use Rattle.mc_generate.specs.Generated.{label_name, names_of, budget, steps_of, steps_of_all, labels_of_all, branch_of}
use Rattle.mc_generate.specs.Generated.{prefix_of, second_in, generated}
use Rattle.mc_generate.specs.Outputs.{Outputs, outputs_of, rest, draw}
use Rattle.mc_generate.specs.{declared.piece.Piece.Piece, Branches.with_piece, Branches.with_pieces, Pieces.piece_in, Pieces.pieces_in, Pieces.branch_in}
use Rattle.mc_generate.specs.declared.piece.Piece.TheVariants as piece

-- ---- a branch, piece by piece

-- the steps and the labels of all pieces stand after those that a section had
with-pieces : (index : ℕ) (pieces : List Piece) (s : Section)
    → with_pieces index pieces s ≡ record {
      budget = s.budget;
      steps = s.steps ++ steps_of_all (length s.labels) pieces;
      labels = s.labels ++ labels_of_all index (length s.steps) pieces;
    }
with-pieces index [] s = rw (append-nil s.steps, append-nil s.labels) refl
with-pieces index (piece.Swap key body ∷ pieces) s =
    let two = steps_of (length s.labels) (piece.Swap key body) in
    let label : Label = record { name = label_name index; place = length s.steps + 2 } in
    with-pieces (index + 1) pieces (with_piece index (piece.Swap key body) s)
    ∙ rw (
      length-append s.steps two,
      length-append s.labels (label ∷ []),
      append_assoc s.steps two (steps_of_all (length s.labels + 1) pieces),
      append_assoc s.labels (label ∷ []) (labels_of_all (index + 1) (length s.steps + 2) pieces),
    )
    refl
with-pieces index (p ∷ pieces) s =
    let one = steps_of (length s.labels) p in
    with-pieces (index + 1) pieces (with_piece index p s)
    ∙ rw (length-append s.steps one, append_assoc s.steps one (steps_of_all (length s.labels) pieces)) refl

-- a section without steps becomes the branch of the pieces
pub branch_begun : (pieces : List Piece) (s : Section) → s ≡ record { budget = budget; steps = []; labels = [] }
    → with_pieces 0 pieces s ≡ branch_of pieces
branch_begun pieces s e = with-pieces 0 pieces s ∙ rw e refl

-- what is made and what is left are the whole branch, also with one more piece
pub piece-more : (index count : ℕ) (before after all : Outputs) (p : Piece) (s more whole : Section) → index < count
    → (p, after) ≡ piece_in before → more ≡ with_piece index p s
    → (with_pieces index (pieces_in (count - index) before).0 s ≡ whole) × ((pieces_in (count - index) before).1 ≡ all)
    → (with_pieces (index + 1) (pieces_in (count - (index + 1)) after).0 more ≡ whole) × ((pieces_in (count - (index + 1)) after).1 ≡ all)
piece-more index count before after all p s more whole below drawn made (branch, left) =
    let n = count - (index + 1) in
    let next : count - index ≡ suc n = omega arith in
    let Branch : ℕ → Type 0 = λ n. with_pieces index (pieces_in n before).0 s ≡ whole in
    let Left : ℕ → Type 0 = λ n. (pieces_in n before).1 ≡ all in
    let BranchOf : Piece × Outputs → Type 0 = λ r. with_pieces (index + 1) (pieces_in n r.1).0 (with_piece index r.0 s) ≡ whole in
    let LeftOf : Piece × Outputs → Type 0 = λ r. (pieces_in n r.1).1 ≡ all in (
      ap (with_pieces (index + 1) (pieces_in n after).0) made ∙ subst BranchOf (sym drawn) (subst Branch next branch),
      subst LeftOf (sym drawn) (subst Left next left),
    )

-- ---- the whole script

-- of what the generator gives before P and before each branch
pub script-drawn : (seed job : ℕ) (g : Lcg) (for-a for-b : Outputs) (names : Names) (p a b : Section)
    → g ≡ started 64 multiplier_64 seed (increment_of 64 job) → names ≡ names_of job
    → p ≡ prefix_of (draw 100 (outputs_of g)) (second_in (draw 2 (rest (outputs_of g))) (rest (rest (outputs_of g)))).0
    → for-a ≡ (second_in (draw 2 (rest (outputs_of g))) (rest (rest (outputs_of g)))).1 → a ≡ branch_of (branch_in for-a).0
    → for-b ≡ (branch_in for-a).1 → b ≡ branch_of (branch_in for-b).0
    → record { names = names; sections = record { p = p; a = a; b = b } } ≡ generated seed job
unfolding generated
script-drawn seed job g for-a for-b names p a b begun e-names e-p e-for-a e-a e-for-b e-b =
    rw (e-names, e-p, e-a, e-b, e-for-b, e-for-a, begun) refl
