-- One more job: its number after those before it, what it came to, and its line after theirs.
use Rattle.std.proofs.Common.{◌≡◌, ℕ, ◌+◌, List, [], ◌∷◌, ◌++◌, map, refl, sym, ap, subst, ◌∙◌}
use Rattle.std.proofs.lemmas.List.{map-append, map-id}
use Rattle.std.proofs.{lemmas.List.Elements.All-push, lemmas.List.FromFn.map-range_with_len_more}
use Rattle.std.specs.{Prelude.Option, List.All, List.range_with_len}
use Rattle.mc_protocol.specs.Lines.{Word}
use Rattle.mc_campaign.specs.{Outcomes.IsJudgedWithin, Outcomes.IsOutcome, declared.outcome.JobResult.JobResult}

range_more : (a n : ℕ) → range_with_len a (n + 1) ≡ range_with_len a n ++ (a + n) ∷ []
range_more a n =
    sym (map-id (range_with_len a (n + 1)))
    ∙ (map-range_with_len_more (λ x. x) a n (a + n) refl ∙ ap (λ xs. xs ++ (a + n) ∷ []) (map-id (range_with_len a n)))

pub one_more_number : {X : Type 0} (number : X → ℕ) (old new : List X) (x : X) (a n : ℕ) → new ≡ old ++ x ∷ [] → number x ≡ a + n
    → map number old ≡ range_with_len a n → map number new ≡ range_with_len a (n + 1)
one_more_number number old new x a n is here before =
    ap (map number) is
    ∙ (map-append number old (x ∷ [])
    ∙ (ap (λ xs. xs ++ number x ∷ []) before ∙ (ap (λ y. range_with_len a n ++ y ∷ []) here ∙ sym (range_more a n))))

-- the history of each job that ran was judged within this limit of turns
abbrev pub AreJudgedWithin : {S : Type 0} → ℕ → List (JobResult S) → Type 0
AreJudgedWithin limit results = All (λ r. IsJudgedWithin limit r.outcome) results

-- a job of a campaign with this seed and this name, if it has one, came to what its result says
abbrev pub IsRight : {S : Type 0} → ℕ → Option Word → JobResult S → Type 0
IsRight seed name r = IsOutcome seed name r.job r.outcome

pub one_more_outcome : {S : Type 0} (seed : ℕ) (name : Option Word) (job : ℕ) (old new : List (JobResult S)) (r : JobResult S) → new ≡ old ++ r ∷ []
    → r.job ≡ job → IsOutcome seed name job r.outcome → All (IsRight seed name) old → All (IsRight seed name) new
one_more_outcome seed name job old new r is here right before =
    subst (All (IsRight seed name)) (sym is)
    (All-push (IsRight seed name) old r before (subst (λ (n : ℕ). IsOutcome seed name n r.outcome) (sym here) right))

pub one_more_judged : {S : Type 0} (limit : ℕ) (old new : List (JobResult S)) (r : JobResult S) → new ≡ old ++ r ∷ []
    → IsJudgedWithin limit r.outcome → AreJudgedWithin limit old → AreJudgedWithin limit new
one_more_judged limit old new r is right before =
    subst (AreJudgedWithin limit) (sym is) (All-push (λ one. IsJudgedWithin limit one.outcome) old r before right)

-- the numbers of the jobs
abbrev pub numbers : {S : Type 0} → List (JobResult S) → List ℕ
numbers results = map (λ r. r.job) results
