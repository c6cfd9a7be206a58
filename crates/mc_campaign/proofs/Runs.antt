-- The jobs of a campaign, kept one after the other.
use Rattle.std.proofs.Common.{◌≡◌, ◌⊎◌, ◌∙◌, ◌+◌, ◌-◌, ◌<◌, ◌≤◌, ◌^◌, ◌++◌, ◌∷◌, [], ℕ, Bool, List, append_assoc, ap, arith}
use Rattle.std.proofs.Common.{cond, false, inl, inr, length, map, min, refl, subst, sym, true}
use Rattle.std.proofs.lemmas.List.{append-nil, length-append}
use Rattle.std.proofs.{lemmas.List.Elements.All-nil, lemmas.List.Sums.count_by-le-length, lemmas.List.Sums.sum_by_push}
use Rattle.std.specs.{Prelude.All, Prelude.Option, List.range_with_len, Option.option_copied}
use Rattle.mc_campaign.proofs.{MoreJobs.one_more_judged, MoreJobs.one_more_number, MoreJobs.one_more_outcome, ShortKeys.short_keys}
use Rattle.mc_campaign.specs.{Outcomes.IsJudgedWithin, Outcomes.IsOutcome, ReportText.count_of, ReportText.is_same_standing, ReportText.standing_of}
use Rattle.mc_campaign.specs.Runs.{Allows, AreAhead, AreRun, IsNext, IsOver}
use Rattle.mc_campaign.specs.{declared.bounds.Bounds.Bounds, declared.campaign.Campaign.Campaign}
use Rattle.mc_campaign.specs.{declared.outcome.JobResult.JobResult, declared.standing.Standing.Standing}
use Rattle.mc_campaign.specs.declared.standing.Standing.TheVariants as standing

-- jobs may begin up to a place that is within 64 of as many as were kept when fewer of those were unexplained than end the campaign
pub record AreOut {S : Type 0} (bound : Option ℕ) (end : ℕ) (results : List (JobResult S)) : Type 0 where
  pub earlier : List (JobResult S)
  pub others : List (JobResult S)
  pub parts : results ≡ earlier ++ others
  pub few : end ≤ length earlier + 64
  pub allowed : Allows bound (count_of standing.Unexplained earlier)

-- these results were kept so far
pub record AreKept {S : Type 0} (campaign : Campaign) (bounds : Bounds) (kept unexplained end : ℕ) (results : List (JobResult S)) : Type 0 where
  pub long : length results ≡ kept
  pub numbers : map (λ r. r.job) results ≡ range_with_len campaign.first kept
  pub jobs : kept ≤ campaign.jobs
  pub outcomes : All (λ r. IsOutcome campaign.seed (option_copied campaign.name) r.job r.outcome) results
  pub turns : All (λ r. IsJudgedWithin campaign.limit r.outcome) results
  pub count : unexplained ≡ count_of standing.Unexplained results
  pub begins : (results ≡ []) ⊎ AreAhead bounds.unexplained results
  pub out : (end ≤ kept) ⊎ AreOut bounds.unexplained end results

pub none_kept : {S : Type 0} (campaign : Campaign) (bounds : Bounds) → AreKept {S = S} campaign bounds 0 0 0 []
none_kept campaign bounds = record {
  long = refl;
  numbers = refl;
  jobs = omega arith;
  outcomes = All-nil _;
  turns = All-nil _;
  count = refl;
  begins = inl refl;
  out = inl (omega arith);
}

-- some more may begin
pub kept_handed : {S : Type 0} (campaign : Campaign) (bounds : Bounds) (kept unexplained end new : ℕ) (results : List (JobResult S))
    → AreKept campaign bounds kept unexplained end results
    → (new ≡ end) ⊎ ((kept < new) × (new ≤ kept + 64) × Allows bounds.unexplained unexplained)
    → AreKept campaign bounds kept unexplained new results
kept_handed campaign bounds kept unexplained end new results are (inl same) =
    subst (λ e. AreKept campaign bounds kept unexplained e results) (sym same) are
kept_handed campaign bounds kept unexplained end new results are (inr (more, few, allowed)) = record {
  long = are.long;
  numbers = are.numbers;
  jobs = are.jobs;
  outcomes = are.outcomes;
  turns = are.turns;
  count = are.count;
  begins = are.begins;
  out = inr record {
    earlier = results;
    others = [];
    parts = sym (append-nil results);
    few = omega (arith, few, are.long);
    allowed = λ most bound. rw are.count at (allowed most bound);
  };
}

-- one more was kept
out_more : {S : Type 0} (bound : Option ℕ) (end kept : ℕ) (results : List (JobResult S)) (r : JobResult S)
    → (end ≤ kept) ⊎ AreOut bound end results → kept < end → AreOut bound end (results ++ r ∷ [])
out_more bound end kept results r (inl none) more = absurd (omega (arith, none, more))
out_more bound end kept results r (inr out) more = record {
  earlier = out.earlier;
  others = out.others ++ r ∷ [];
  parts = ap (λ l. l ++ r ∷ []) out.parts ∙ append_assoc out.earlier out.others (r ∷ []);
  few = out.few;
  allowed = out.allowed;
}

begins_more : {S : Type 0} (bound : Option ℕ) (end kept : ℕ) (results : List (JobResult S)) (r : JobResult S)
    → (end ≤ kept) ⊎ AreOut bound end results → kept < end → length results ≡ kept → AreAhead bound (results ++ r ∷ [])
begins_more bound end kept results r (inl none) more long = absurd (omega (arith, none, more))
begins_more bound end kept results r (inr out) more long =
    let all = ap length out.parts ∙ length-append out.earlier out.others in
    let one = length-append out.others (r ∷ []) in
    record {
      earlier = out.earlier;
      others = out.others ++ r ∷ [];
      parts = ap (λ l. l ++ r ∷ []) out.parts ∙ append_assoc out.earlier out.others (r ∷ []);
      some = omega (arith, one);
      few = omega (arith, one, all, out.few, more, long);
      allowed = out.allowed;
    }

one_at_most : (b : Bool) → cond b 1 0 ≤ 1
one_at_most true = omega arith
one_at_most false = omega arith

pub kept_more : {S : Type 0} (campaign : Campaign) (bounds : Bounds) (kept unexplained end new : ℕ) (counts : Standing)
    (results : List (JobResult S)) (r : JobResult S)
    → AreKept campaign bounds kept unexplained end results → kept < end → end ≤ campaign.jobs → end < 2 ^ 64
    → IsNext campaign (campaign.first + kept) counts r
    → new ≡ min (unexplained + cond (is_same_standing standing.Unexplained counts) 1 0) (2 ^ 64 - 1)
    → AreKept campaign bounds (kept + 1) new end (results ++ r ∷ [])
kept_more campaign bounds kept unexplained end new counts results r are more fits small next is =
    let push = sum_by_push (λ (x : JobResult _). cond (is_same_standing standing.Unexplained (standing_of x.outcome)) 1 0) results r in
    let few = count_by-le-length (λ (x : JobResult _). is_same_standing standing.Unexplained (standing_of x.outcome)) results in
    let same = rw next.standing_is at is in
    let one = one_at_most (is_same_standing standing.Unexplained (standing_of r.outcome)) in
    record {
      long = length-append results (r ∷ []) ∙ ap (λ n. n + 1) are.long;
      numbers = one_more_number (λ r. r.job) results (results ++ r ∷ []) r campaign.first kept refl next.number are.numbers;
      jobs = omega (arith, more, fits);
      outcomes =
          one_more_outcome campaign.seed (option_copied campaign.name) r.job results (results ++ r ∷ []) r refl refl next.outcome are.outcomes;
      turns = one_more_judged campaign.limit results (results ++ r ∷ []) r refl next.turns are.turns;
      count = omega (arith, same, one, are.count, push, few, are.long, more, small);
      begins = inr (begins_more bounds.unexplained end kept results r are.out more are.long);
      out = inr (out_more bounds.unexplained end kept results r are.out more);
    }

-- no other begins
pub kept_all : {S : Type 0} (campaign : Campaign) (bounds : Bounds) (kept unexplained end : ℕ) (results : List (JobResult S))
    → AreKept campaign bounds kept unexplained end results → IsOver bounds campaign.jobs kept unexplained → AreRun campaign bounds results
kept_all campaign bounds kept unexplained end results are over =
    let numbers = rw (sym are.long) at are.numbers in
    record {
      numbers = numbers;
      jobs = rw are.long are.jobs;
      outcomes = are.outcomes;
      turns = are.turns;
      short = short_keys campaign.seed (option_copied campaign.name) campaign.first (length results) results numbers are.outcomes;
      begins = are.begins;
      ends = rw (are.long, sym are.count) over;
    }
