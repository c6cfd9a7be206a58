-- The place from which on nothing explains a history.
use Rattle.std.proofs.Common.{◌≡◌, inl, inr, ℕ, ◌+◌, ◌-◌, ◌≤◌, ◌<◌, true, Option, Some, None, is_some, List, [], take, refl, sym, ap, subst, ◌∙◌, arith}
use Rattle.std.proofs.lemmas.Bool.{cases_lt}
use Rattle.mc_model.specs.{Notes.History, Notes.IsHistory, Notes.Noted, Notes.without_notes, Sections.Sections, Sections.no_sections}
use Rattle.mc_history.specs.Claim.{Claim, NumbersFit}
use Rattle.mc_claims.specs.Explains.{Explains}
use Rattle.mc_claims.proofs.Explaining.{explains_from_walk}
use Rattle.mc_explain.specs.Hopeless.{IsUnexplained}
use Rattle.mc_why.specs.{Cuts.cut, Cuts.cut_of, Cuts.place_count, Causes.IsUnexplainedFrom}
use Rattle.mc_why.proofs.{Cuts.cut_again, Cuts.history_cut, Cuts.in_prefix, Cuts.whole, OneLess.cuts_explained}

abbrev pub no_moves : Claim
no_moves = record { start = []; order = [] }

none_fit : NumbersFit no_moves
none_fit = record { start = λ k d less. absurd (omega arith); order = λ k d less. absurd (omega arith) }

nothing_explained : (n : ℕ) (notes : Option (List Noted)) (s : Sections) → n ≡ 0 → Explains (cut_of n notes s) no_moves
nothing_explained n None s e =
    let none : without_notes no_sections ≡ cut_of n None s = ap (λ t. without_notes t) (sym (in_prefix 0 s (omega arith)))
    ∙ ap (λ m. cut_of m None s) (sym e) in
    subst (λ (h : History). Explains h no_moves) none (explains_from_walk (without_notes no_sections) no_moves none_fit tt refl)
nothing_explained n (Some notes) s e =
    subst (λ m. Explains (cut_of m (Some notes) s) no_moves) (sym e) (explains_from_walk (cut_of 0 (Some notes) s) no_moves none_fit tt refl)

-- what stands before the first place is explained
pub start_explained : (h : History) → Explains (cut 0 h) no_moves
start_explained h = nothing_explained 0 h.notes h.sections refl

-- what stands before the end is not
pub end_unexplained : (h : History) (n : ℕ) → IsHistory h → IsUnexplained h → place_count h ≤ n → IsUnexplained (cut n h)
end_unexplained h n is none many = subst IsUnexplained (sym (whole h n is many)) none

some_of : {X : Type 0} (o : Option X) → is_some o ≡ true → (x : X) × (o ≡ Some x)
some_of None e = absurd (cc)
some_of (Some x) e = (x, refl)

-- where notes are kept, no longer cut than one that has no explanation has one
onward_of : (h : History) (notes : List Noted) (m n : ℕ) → IsHistory h → h.notes ≡ Some notes → m ≤ n → IsUnexplained (cut m h) → IsUnexplained (cut n h)
onward_of h notes m n is e few none claim x =
    let kept : (cut n h).notes ≡ Some (take n notes) = ap (λ (o : Option (List Noted)). (cut_of n o h.sections).notes) e in
    let (other, explains) = cuts_explained (cut n h) (take n notes) claim m (history_cut h n is) kept x in
    none other (subst (λ (g : History). Explains g other) (cut_again h notes m n e few) explains)

apart : (h : History) (low high : ℕ) (claim : Claim) → low ≤ high → Explains (cut low h) claim → IsUnexplained (cut high h) → low < high
apart h low high claim few x none =
    elim (cases_lt low high) [
      | inl less ↦ less
      | inr more ↦
          let same : low ≡ high = omega arith in
          absurd (none claim (subst (λ n. Explains (cut n h) claim) same x))
    ]

-- where halving ends
pub halves_meet : (h : History) (low high : ℕ) (claim : Claim) → IsHistory h → is_some h.notes ≡ true → low ≤ high → high ≤ place_count h
    → high - low ≤ 1 → Explains (cut low h) claim → IsUnexplained (cut high h) → IsUnexplainedFrom h low claim
halves_meet h low high claim is noted few within near x none =
    let (notes, e) = some_of h.notes noted in
    let less = apart h low high claim few x none in
    record {
      within = omega arith;
      before = x;
      onward = λ n more. onward_of h notes high n is e (omega arith) none;
    }

-- where the search from the end stops
pub back_at : (h : History) (place : ℕ) (claim : Claim) → place < place_count h → Explains (cut place h) claim
    → ((n : ℕ) → place + 1 ≤ n → IsUnexplained (cut n h)) → IsUnexplainedFrom h place claim
back_at h place claim within x none = record { within = within; before = x; onward = λ n more. none n (omega arith) }

pub back_at_start : (h : History) (place : ℕ) → place ≤ 1 → place ≤ place_count h → ((n : ℕ) → place ≤ n → IsUnexplained (cut n h))
    → IsUnexplainedFrom h 0 no_moves
back_at_start h place few within none =
    let less = apart h 0 place no_moves (omega arith) (start_explained h) (none place (omega arith)) in
    record { within = omega arith; before = start_explained h; onward = λ n more. none n (omega arith) }

-- one place further back
pub back_more : (h : History) (place : ℕ) → IsUnexplained (cut place h) → ((n : ℕ) → place + 1 ≤ n → IsUnexplained (cut n h))
    → (n : ℕ) → place ≤ n → IsUnexplained (cut n h)
back_more h place here none n few =
    elim (cases_lt place n) [
      | inl less ↦ none n (omega arith)
      | inr more ↦ let same : place ≡ n = omega arith in subst (λ m. IsUnexplained (cut m h)) same here
    ]

-- the place is the only one
pub one_place : (h : History) (place other : ℕ) (claim elsewhere : Claim) → IsUnexplainedFrom h place claim → IsUnexplainedFrom h other elsewhere
    → place ≡ other
one_place h place other claim elsewhere here there =
    elim (cases_lt place other) [
      | inl less ↦ absurd (here.onward other less elsewhere there.before)
      | inr few ↦ elim (cases_lt other place) [
        | inl less ↦ absurd (there.onward place less claim here.before)
        | inr more ↦ omega arith
      ]
    ]
