-- What shows the unexplained ones of some jobs, one job after the other.
use Rattle.std.proofs.Common.{◌≡◌, ◌⊎◌, ◌∷◌, ◌-◌, ◌<◌, ◌≤◌, ◌∙◌}
use Rattle.std.proofs.Common.{arith, refl, ap, inl, inr, subst, sym, ℕ, zero, suc, List, [], Bool, Option, Result, Ok, Err, IfOk, true, false}
use Rattle.std.proofs.Common.{Vec}
use Rattle.std.specs.declared.alloc.Global.{Global}
use Rattle.std.proofs.lemmas.List.{append-nil}
use Rattle.std.specs.Prelude.{if◌then◌else◌, filter, take}
use Rattle.mc_protocol.specs.Lines.{Word}
use Rattle.mc_campaign.specs.{Outcomes.IsOutcome, declared.outcome.JobOutcome.JobOutcome, declared.outcome.JobResult.JobResult}
use Rattle.mc_campaign.specs.declared.outcome.JobOutcome.TheVariants as outcome
use Rattle.mc_command.specs.CampaignAnswers.{AreShown, HasTrueVerdict, IsShownJob, MOST_SHOWN, ShowsAtMost, is_unexplained, shown_jobs}

kept : {X : Type 0} (test : X → Bool) (x : X) (xs : List X) → test x ≡ true → filter test (x ∷ xs) ≡ x ∷ filter test xs
kept test x xs is = ap (λ b. if b then x ∷ filter test xs else filter test xs) is

left_out : {X : Type 0} (test : X → Bool) (x : X) (xs : List X) → test x ≡ false → filter test (x ∷ xs) ≡ filter test xs
left_out test x xs is = ap (λ b. if b then x ∷ filter test xs else filter test xs) is

-- the first job is shown
pub shown_one : {S : Type 0} (left : ℕ) (r : JobResult S) (rest : List (JobResult S)) → 0 < left → is_unexplained r ≡ true
    → shown_jobs left (r ∷ rest) ≡ r ∷ shown_jobs (left - 1) rest
shown_one zero r rest some found = absurd (omega (arith, some))
shown_one (suc n) r rest some found =
    let one_less : suc n - 1 ≡ n = omega arith in
    rw one_less (ap (take (suc n)) (kept is_unexplained r rest found))

-- it isn't, since none is left to be shown, or since it is explained
pub shown_no_more : {S : Type 0} (left : ℕ) (r : JobResult S) (rest : List (JobResult S)) → left ≤ 0
    → shown_jobs left (r ∷ rest) ≡ shown_jobs left rest
shown_no_more zero r rest none = refl
shown_no_more (suc n) r rest none = absurd (omega (arith, none))

pub shown_later : {S : Type 0} (left : ℕ) (r : JobResult S) (rest : List (JobResult S)) → is_unexplained r ≡ false
    → shown_jobs left (r ∷ rest) ≡ shown_jobs left rest
shown_later left r rest other = ap (take left) (left_out is_unexplained r rest other)

-- no job is shown of none
pub none_shown : {S : Type 0} (left : ℕ) → shown_jobs {S = S} left [] ≡ []
none_shown zero = refl
none_shown (suc n) = refl

-- one job that is shown, and one that isn't
pub shows_one : {S : Type 0} (show why : Bool) (left : ℕ) (r : JobResult S) (text : List ℕ) → show ≡ true → 0 < left → is_unexplained r ≡ true
    → IsShownJob why r text → ShowsAtMost left show why (r ∷ []) text
shows_one {S} true why left r text asked some found is =
    let same = shown_one left r [] some found ∙ ap (λ l. r ∷ l) (none_shown {S = S} (left - 1)) in
    subst (λ l. AreShown why l text) (sym same) (text, [], is, refl, sym (append-nil text))
shows_one false why left r text asked some found is = absurd (cc (asked))

pub shows_none : {S : Type 0} (show why : Bool) (left : ℕ) (r : JobResult S) (text : List ℕ) → text ≡ []
    → (show ≡ false) ⊎ ((left ≤ 0) ⊎ (is_unexplained r ≡ false)) → ShowsAtMost left show why (r ∷ []) text
shows_none false why left r text none hidden = none
shows_none true why left r text none (inl unasked) = absurd (cc (unasked))
shows_none {S} true why left r text none (inr (inl over)) =
    subst (λ l. AreShown why l text) (sym (shown_no_more left r [] over ∙ none_shown {S = S} left)) none
shows_none {S} true why left r text none (inr (inr other)) =
    subst (λ l. AreShown why l text) (sym (shown_later left r [] other ∙ none_shown {S = S} left)) none

pub shown_less : {S E : Type 0} (found : Result (Vec ℕ Global) E) (show why : Bool) (left : ℕ) (r : JobResult S) → show ≡ true → 0 < left
    → is_unexplained r ≡ true → IfOk found (λ text. IsShownJob why r text.items) → IfOk found (λ text. ShowsAtMost left show why (r ∷ []) text.items)
shown_less (Ok text) show why left r asked some found is = shows_one show why left r text.items asked some found is
shown_less (Err e) show why left r asked some found is = tt

pub hidden_less : {S : Type 0} (show : Bool) (before : ℕ) (r : JobResult S)
    → (show ≡ false) ⊎ ((MOST_SHOWN ≤ before) ⊎ (is_unexplained r ≡ false))
    → (show ≡ false) ⊎ ((MOST_SHOWN - before ≤ 0) ⊎ (is_unexplained r ≡ false))
hidden_less show before r (inl unasked) = inl unasked
hidden_less show before r (inr (inl over)) = inr (inl (omega (arith, over)))
hidden_less show before r (inr (inr other)) = inr (inr other)

-- the verdicts on the runs of a campaign are true of their histories
pub true_verdict : {S : Type 0} (seed : ℕ) (name : Option Word) (job : ℕ) (found : JobOutcome S) → IsOutcome seed name job found
    → HasTrueVerdict found
true_verdict seed name job (outcome.NotMade fault) is = tt
true_verdict seed name job (outcome.NoLane actor) is = tt
true_verdict seed name job (outcome.NotRun error) is = tt
true_verdict seed name job (outcome.Ran run history verdict turns) is = rw is.0.history is.0.trial.explained
