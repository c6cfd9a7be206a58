-- The steps and the labels of a generated branch keep the rules of a section.
use Rattle.std.proofs.Common.{◌≡◌, ℕ, ◌+◌, ◌*◌, ◌<◌, ◌≤◌, nat_le, true, false, Some, List, [], ◌∷◌, ◌++◌, length, decimal}
use Rattle.std.proofs.Common.{refl, sym, subst, arith, append_assoc, length-append, lit<}
use Rattle.std.proofs.lemmas.Bool.{and_from, le-leb}
use Rattle.std.specs.{Prelude.slice_get, Str.bytes_eq}
use Rattle.mc_protocol.specs.{Decimals.MAX_64, Fields.fields_of, Names.is_new, Names.are_distinct, declared.request.Verb.Verb}
use Rattle.mc_protocol.specs.declared.request.Verb.TheVariants as verb
use Rattle.mc_script.specs.WellFormed.{IsAfter, AreSteps, AreLabels}
use Rattle.mc_script.specs.{declared.section.Label.Label, declared.step.Argument.Argument, WellFormed.label_names, Templates.has_fields, Templates.IsTemplate}
use Rattle.mc_script.specs.declared.step.Argument.TheVariants as argument
use Rattle.mc_generate.specs.Generated.{label_name, names_of, request, storing, bare, setting_flag, needing_flag}
use Rattle.mc_generate.specs.{declared.piece.Piece.Piece, Generated.steps_of, Generated.steps_of_all, Generated.labels_of_all}
use Rattle.mc_generate.specs.declared.piece.Piece.TheVariants as piece
use Rattle.mc_generate.proofs.PieceFacts.{IsPiece, ArePieces, IsSingle}
use Rattle.mc_generate.proofs.NameFacts.{decimal-body, label-named, labels-differ}

-- ---- requests

plain : (v : Verb) (key : ℕ) (a : Argument) (body : List ℕ) → key < 2 → has_fields 1 (fields_of v) 0 a body ≡ true
    → IsTemplate 2 1 1 (request v key a body)
plain v key a body k h = record {
  key = k;
  fields = h;
  require_set = lit< tt;
  require_clear = lit< tt;
  sets = lit< tt;
  clears = lit< tt;
  needs_apart = refl;
  changes_apart = refl;
}

pub stores : (key body : ℕ) → key < 2 → body < 100 → IsTemplate 2 1 1 (storing verb.Set key body)
stores key body k h = plain verb.Set key argument.Nothing (decimal body) k (decimal-body body h)

pub sets-flag : (key body : ℕ) → key < 2 → body < 100 → IsTemplate 2 1 1 (setting_flag (storing verb.Set key body))
sets-flag key body k h = record {
  key = k;
  fields = decimal-body body h;
  require_set = lit< tt;
  require_clear = lit< tt;
  sets = lit< tt;
  clears = lit< tt;
  needs_apart = refl;
  changes_apart = refl;
}

needs-flag : (key : ℕ) → key < 2 → IsTemplate 2 1 1 (needing_flag (bare verb.Get key))
needs-flag key k = record {
  key = k;
  fields = refl;
  require_set = lit< tt;
  require_clear = lit< tt;
  sets = lit< tt;
  clears = lit< tt;
  needs_apart = refl;
  changes_apart = refl;
}

counts : (n : ℕ) → n < 100 → nat_le n MAX_64 ≡ true
counts n h = le-leb n MAX_64 (omega arith)

-- ---- steps

single-steps : (job place count : ℕ) (labels : List Label) (p : Piece) → IsPiece p → IsSingle p → AreSteps (names_of job) labels place (steps_of count p)
single-steps job place count labels (piece.Set key body) is one = ((stores key body is.key is.number, tt, tt), tt)
single-steps job place count labels (piece.Add key body) is one =
    ((plain verb.Add key argument.Nothing (decimal body) is.key (decimal-body body is.number), tt, tt), tt)
single-steps job place count labels (piece.Append key body) is one =
    ((plain verb.Append key argument.Nothing (decimal body) is.key (decimal-body body is.number), tt, tt), tt)
single-steps job place count labels (piece.Incr key amount) is one =
    ((plain verb.Incr key (argument.Number amount) [] is.key (and_from (nat_le amount MAX_64) true (counts amount is.number) refl), tt, tt), tt)
single-steps job place count labels (piece.Decr key amount) is one =
    ((plain verb.Decr key (argument.Number amount) [] is.key (and_from (nat_le amount MAX_64) true (counts amount is.number) refl), tt, tt), tt)
single-steps job place count labels (piece.Delete key) is one = ((plain verb.Delete key argument.Nothing [] is.key refl, tt, tt), tt)
single-steps job place count labels (piece.Get key) is one = ((needs-flag key is.key, tt, tt), tt)
single-steps job place count labels (piece.Swap key body) is one = absurd one

label-found : (done : List Label) (label : Label) (others : List Label) → slice_get (done ++ label ∷ others) (length done) ≡ Some label
label-found [] label others = refl
label-found (first ∷ done) label others = label-found done label others

pub branch-steps : (job index place : ℕ) (done : List Label) (pieces : List Piece) → ArePieces pieces
    → AreSteps (names_of job) (done ++ labels_of_all index place pieces) place (steps_of_all (length done) pieces)
branch-steps job index place done [] are = tt
branch-steps job index place done (piece.Swap key body ∷ pieces) are =
    let label : Label = record { name = label_name index; place = place + 2 } in
    let after = labels_of_all (index + 1) (place + 2) pieces in
    let all = done ++ label ∷ after in
    let same : (done ++ label ∷ []) ++ after ≡ all = append_assoc done (label ∷ []) after in
    let size : length (done ++ label ∷ []) ≡ length done + 1 = length-append done (label ∷ []) in
    let next : place + 1 + 1 ≡ place + 2 = omega arith in
    let key-below = are.0.key in
    let behind : IsAfter all place (length done) = (label, label-found done label after, omega arith) in
    let P : List Label → ℕ → ℕ → Type 0 = λ labels at count. AreSteps (names_of job) labels at (steps_of_all count pieces) in
    let others : P ((done ++ label ∷ []) ++ after) (place + 2) (length (done ++ label ∷ []))
    = branch-steps job (index + 1) (place + 2) (done ++ label ∷ []) pieces are.1 in (
      (plain verb.Gets key argument.Nothing [] key-below refl, (omega arith, refl, behind, tt), (lit< tt, refl, refl)),
      (
        (plain verb.Cas key (argument.Variable 0) (decimal body) key-below (decimal-body body are.0.number), tt, tt),
        subst (λ labels. P labels (place + 1 + 1) (length done + 1)) same
            (subst (λ at. P ((done ++ label ∷ []) ++ after) at (length done + 1)) (sym next)
            (subst (P ((done ++ label ∷ []) ++ after) (place + 2)) size others)),
      ),
    )
branch-steps job index place done (p ∷ pieces) are =
    let all = done ++ labels_of_all (index + 1) (place + 1) pieces in
    ((single-steps job place (length done) all p are.0 tt).0, branch-steps job (index + 1) (place + 1) done pieces are.1)

-- a branch has at most two steps for each piece
pub few-steps : (count : ℕ) (pieces : List Piece) → length (steps_of_all count pieces) ≤ 2 * length pieces
few-steps count [] = omega arith
few-steps count (piece.Swap key body ∷ pieces) = let others = few-steps (count + 1) pieces in omega arith
few-steps count (p ∷ pieces) = let others = few-steps count pieces in omega arith

-- ---- labels

pub branch-labels : (index count from place steps : ℕ) (pieces : List Piece) → from ≤ place → index + length pieces < 100
    → place + length (steps_of_all count pieces) ≤ steps → AreLabels steps from (labels_of_all index place pieces)
branch-labels index count from place steps [] h few fit = tt
branch-labels index count from place steps (piece.Swap key body ∷ pieces) h few fit = (
  label-named index (omega arith),
  omega arith,
  omega arith,
  branch-labels (index + 1) (count + 1) (place + 2) (place + 2) steps pieces (omega arith) (omega arith) (omega arith),
)
branch-labels index count from place steps (p ∷ pieces) h few fit =
    branch-labels (index + 1) count from (place + 1) steps pieces (omega arith) (omega arith) (omega arith)

new-more : (name other : List ℕ) (names : List (List ℕ)) → bytes_eq name other ≡ false → is_new names name ≡ true → is_new (other ∷ names) name ≡ true
new-more name other names e h = rw e h

-- the label of an earlier piece is none of these
label-new : (earlier index place : ℕ) (pieces : List Piece) → earlier < index → index + length pieces < 100
    → is_new (label_names (labels_of_all index place pieces)) (label_name earlier) ≡ true
label-new earlier index place [] h few = refl
label-new earlier index place (piece.Swap key body ∷ pieces) h few =
    new-more (label_name earlier) (label_name index) (label_names (labels_of_all (index + 1) (place + 2) pieces))
    (labels-differ earlier index h (omega arith)) (label-new earlier (index + 1) (place + 2) pieces (omega arith) (omega arith))
label-new earlier index place (p ∷ pieces) h few = label-new earlier (index + 1) (place + 1) pieces (omega arith) (omega arith)

pub labels-distinct : (index place : ℕ) (pieces : List Piece) → index + length pieces < 100
    → are_distinct (label_names (labels_of_all index place pieces)) ≡ true
labels-distinct index place [] few = refl
labels-distinct index place (piece.Swap key body ∷ pieces) few =
    let names = label_names (labels_of_all (index + 1) (place + 2) pieces) in
    and_from (is_new names (label_name index)) (are_distinct names)
    (label-new index (index + 1) (place + 2) pieces (omega arith) (omega arith)) (labels-distinct (index + 1) (place + 2) pieces (omega arith))
labels-distinct index place (p ∷ pieces) few = labels-distinct (index + 1) (place + 1) pieces (omega arith)
