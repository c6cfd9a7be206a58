-- The jobs of reports, put together.
use Rattle.std.proofs.Common.{◌≡◌, ◌∙◌, ◌+◌, ◌<◌, ◌≤◌, ◌++◌, ◌∷◌, [], ℕ, zero, suc, ap, ap₂, arith, length, refl, sym}
use Rattle.std.proofs.Common.{List, Option, Some, None, append_assoc, map, min, reverse, take}
use Rattle.std.proofs.lemmas.List.{append-nil, length-append, length-map, length-take, map-append, reverse-append, take-map}
use Rattle.std.proofs.lemmas.List.Elements.{All-append, All-cons, All-nil, All-take}
use Rattle.std.proofs.{lemmas.List.Concat.flat_map-append, lemmas.List.FromFn.length-range_with_len}
use Rattle.std.specs.{Prelude.All, Prelude.flat_map, List.range_with_len}
use Rattle.mc_protocol.specs.Lines.{Word}
use Rattle.mc_settings.specs.JobKeys.{NameFits}
use Rattle.mc_campaign.specs.{Outcomes.HasShortKeys, Outcomes.IsOutcome, declared.outcome.JobResult.JobResult}
use Rattle.mc_command.specs.{CampaignReports.AreReports, CampaignReports.jobs_of, CampaignAnswers.AreResults}
use Rattle.mc_cli.specs.{Args.GREATEST_JOBS, declared.args.Plan.Plan}

-- ---- results

range_joined : (first n m : ℕ) → range_with_len first (n + m) ≡ range_with_len first n ++ range_with_len (first + n) m
range_joined first zero m =
    let all : zero + m ≡ m = omega arith in
    let on : first + zero ≡ first = omega arith in
    ap (range_with_len first) all ∙ ap (λ a. range_with_len a m) (sym on)
range_joined first (suc n) m =
    let all : suc n + m ≡ suc (n + m) = omega arith in
    let on : (first + 1) + n ≡ first + suc n = omega arith in
    ap (range_with_len first) all
    ∙ (ap (λ l. first ∷ l) (range_joined (first + 1) n m)
    ∙ ap (λ a. first ∷ (range_with_len (first + 1) n ++ range_with_len a m)) on)

-- under a name that leaves the keys of all jobs short, those of the first and of the last of them are
fits_first : (name : Option Word) (first n m : ℕ) → NameFits name first (n + m) → NameFits name first n
fits_first None first n m fits = tt
fits_first (Some word) first n m fits = λ job least below. fits job least (omega (arith, below))

fits_last : (name : Option Word) (first n m : ℕ) → NameFits name first (n + m) → NameFits name (first + n) m
fits_last None first n m fits = tt
fits_last (Some word) first n m fits = λ job least below. fits job (omega (arith, least)) (omega (arith, below))

pub results_joined : {S : Type 0} (seed : ℕ) (name : Option Word) (first n m : ℕ) (results block : List (JobResult S))
    → AreResults seed name first n results → AreResults seed name (first + n) m block → AreResults seed name first (n + m) (results ++ block)
results_joined seed name first n m results block front back = record {
  jobs_in_order = map-append (λ r. r.job) results block
      ∙ (ap₂ (λ a b. a ++ b) front.jobs_in_order back.jobs_in_order ∙ sym (range_joined first n m));
  outcomes = All-append (λ r. IsOutcome seed name r.job r.outcome) results block front.outcomes back.outcomes;
  short = λ fits. All-append (λ r. HasShortKeys r.outcome) results block (front.short (fits_first name first n m fits))
      (back.short (fits_last name first n m fits));
}

no_results : {S : Type 0} (seed : ℕ) (name : Option Word) (first : ℕ) → AreResults {S = S} seed name first 0 []
no_results seed name first = record {
  jobs_in_order = refl;
  outcomes = All-nil _;
  short = λ _. All-nil _;
}

pub numbers_long : {S : Type 0} (first n : ℕ) (results : List (JobResult S)) → map (λ r. r.job) results ≡ range_with_len first n
    → length results ≡ n
numbers_long first n results are = sym (length-map results (λ r. r.job)) ∙ (ap length are ∙ length-range_with_len first n)

pub results_long : {S : Type 0} (seed : ℕ) (name : Option Word) (first n : ℕ) (results : List (JobResult S))
    → AreResults seed name first n results → length results ≡ n
results_long seed name first n results are = numbers_long first n results are.jobs_in_order

-- ---- reports

pub jobs_more : {S : Type 0} (whole : List (List (JobResult S))) (last block : List (JobResult S))
    → jobs_of whole (last ++ block) ≡ jobs_of whole last ++ block
jobs_more whole last block = sym (append_assoc (flat_map (λ report. report) whole) last block)

-- the last report, taken as a whole one
pub jobs_written : {S : Type 0} (whole : List (List (JobResult S))) (last : List (JobResult S))
    → jobs_of (whole ++ last ∷ []) [] ≡ jobs_of whole last
jobs_written whole last = append-nil (flat_map (λ report. report) (whole ++ last ∷ []))
    ∙ (flat_map-append (λ report. report) whole (last ∷ []) ∙ ap (λ l. flat_map (λ report. report) whole ++ l) (append-nil last))

pub no_reports : {S : Type 0} (plan : Plan) (name : Option Word) → AreReports {S = S} plan name [] []
no_reports plan name = record {
  results = no_results plan.seed name plan.first;
  jobs = omega arith;
  full = All-nil _;
  fits = omega arith;
}

pub reports_more : {S : Type 0} (plan : Plan) (name : Option Word) (whole : List (List (JobResult S))) (last block : List (JobResult S)) (m : ℕ)
    → AreReports plan name whole last → AreResults plan.seed name (plan.first + length (jobs_of whole last)) m block
    → length (jobs_of whole last) + m ≤ plan.jobs → length last + m ≤ GREATEST_JOBS → AreReports plan name whole (last ++ block)
reports_more plan name whole last block m are more few fits =
    let long = results_long _ _ _ m block more in
    let all : length (jobs_of whole last ++ block) ≡ length (jobs_of whole last) + m =
    length-append (jobs_of whole last) block ∙ ap (λ k. length (jobs_of whole last) + k) long in
    let part : length (last ++ block) ≡ length last + m = length-append last block ∙ ap (λ k. length last + k) long in
    record {
      results = rw (jobs_more whole last block, all)
          (results_joined plan.seed name plan.first (length (jobs_of whole last)) m (jobs_of whole last) block are.results more);
      jobs = rw (jobs_more whole last block, all) few;
      full = are.full;
      fits = rw part fits;
    }

pub reports_written : {S : Type 0} (plan : Plan) (name : Option Word) (whole : List (List (JobResult S))) (last : List (JobResult S))
    → AreReports plan name whole last → length last ≡ GREATEST_JOBS → AreReports plan name (whole ++ last ∷ []) []
reports_written plan name whole last are full = record {
  results = rw (jobs_written whole last) are.results;
  jobs = rw (jobs_written whole last) are.jobs;
  full = All-append (λ report. length report ≡ GREATEST_JOBS) whole (last ∷ []) are.full
      (All-cons (λ report. length report ≡ GREATEST_JOBS) last [] full (All-nil (λ report. length report ≡ GREATEST_JOBS)));
  fits = omega arith;
}
