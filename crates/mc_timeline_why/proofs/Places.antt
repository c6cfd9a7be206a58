-- The place at which requests become unexplained.
use Rattle.std.proofs.Common.{◌≡◌, ◌<◌, ◌≤◌, ◌+◌, inl, inr, ℕ, List, [], ◌∷◌, ◌++◌, length, refl, sym, subst, ap, arith}
use Rattle.std.proofs.{lemmas.Bool.cases_lt, lemmas.List.take_all}
use Rattle.mc_timeline.specs.Timelines.{ClientNote, operations_of, restricted}
use Rattle.mc_timeline.specs.{Operations.Operation, Operations.IsLinearization, Explanations.IsExplained}
use Rattle.mc_linearize.specs.{Claims.ExplainsTimeline, Claims.TimelineClaim, Verdicts.IsUnexplained}
use Rattle.mc_timeline_why.specs.{Fronts.front, TimelineCauses.IsUnexplainedAtPlace}

abbrev pub no_moves : TimelineClaim
no_moves = record { start = []; moves = [] }

not_nil : (front back : List Operation) (y : Operation) → [] ≡ front ++ y ∷ back → ⊥
not_nil [] back y e = absurd (cc)
not_nil (x ∷ front) back y e = absurd (cc)

no_order : IsLinearization [] []
no_order = record {
  distinct = tt;
  only = λ x h. h;
  answered = λ x h e. h;
  real_time = λ front y back e. absurd (not_nil front back y e);
}

-- no moves explain what stands before the first place
pub start_explained : (key : List ℕ) (notes : List ClientNote) → ExplainsTimeline (front key 0 notes) no_moves
start_explained key notes = record {
  effected = [];
  moves = refl;
  explains = record {
    linear = no_order;
    start_fits = λ s h. absurd h;
    effected_fit = λ e h. absurd h;
    keys = tt;
    numbers = tt;
    replies = tt;
  };
}

-- what stands before the end is not explained
pub end_unexplained : (key : List ℕ) (notes : List ClientNote) (n : ℕ) → length notes ≤ n → IsUnexplained (restricted key notes)
    → IsUnexplained (front key n notes)
end_unexplained key notes n many none =
    subst (λ (l : List ClientNote). IsUnexplained (restricted key l)) (sym (take_all n notes many)) none

is_explained : (notes : List ClientNote) (claim : TimelineClaim) → ExplainsTimeline notes claim → IsExplained (operations_of notes)
is_explained notes claim x = record { start = claim.start; effected = x.effected; explains = x.explains }

-- nothing lies between two places: the lower one is the place
pub halves_meet : (key : List ℕ) (notes : List ClientNote) (low high : ℕ) (claim : TimelineClaim) → low ≤ high → high ≤ low + 1 → high ≤ length notes
    → ExplainsTimeline (front key low notes) claim → IsUnexplained (front key high notes) → IsUnexplainedAtPlace notes key low claim
halves_meet key notes low high claim order close within x none =
    elim (cases_lt low high) [
      | inl less ↦
          let next : high ≡ low + 1 = omega arith in
          record {
            within = omega arith;
            before = x;
            behind = subst (λ n. IsUnexplained (front key n notes)) next none;
          }
      | inr more ↦
          let same : low ≡ high = omega arith in
          absurd (none (is_explained (front key high notes) claim (subst (λ n. ExplainsTimeline (front key n notes) claim) same x)))
    ]
