-- Where a name leaves the keys of all jobs short, no job of a report was kept from running by a key that is too long.
use Rattle.std.proofs.Common.{◌≡◌, ℕ, ◌+◌, ◌<◌, Some, None, List, length, get_or, sym, ap, subst, ◌∙◌, arith}
use Rattle.std.proofs.{lemmas.List.get_or-map, lemmas.List.length-map, lemmas.List.FromFn.get_or-range_with_len, lemmas.List.FromFn.length-range_with_len}
use Rattle.std.specs.{Prelude.Option, List.All, List.range_with_len}
use Rattle.mc_protocol.specs.Lines.{Word}
use Rattle.mc_settings.specs.JobKeys.{NameFits}
use Rattle.mc_generate.specs.JobCodes.{HasLongKey}
use Rattle.mc_campaign.specs.declared.outcome.JobOutcome.{JobOutcome}
use Rattle.mc_campaign.specs.{Outcomes.HasShortKeys, Outcomes.IsOutcome, declared.outcome.JobResult.JobResult}
use Rattle.mc_campaign.proofs.MoreJobs.{IsRight, numbers}

-- none of the jobs has a key that is too long under the name
none-long : (name : Option Word) (first jobs place : ℕ) → place < jobs → NameFits name first jobs → HasLongKey name (first + place) → ⊥
none-long None first jobs place below fits long = long
none-long (Some name) first jobs place below fits long = long (fits (first + place) (omega arith) (omega arith))

-- the job in this place has this number
job-at : {S : Type 0} (first jobs place : ℕ) (results : List (JobResult S)) (d : JobResult S) → numbers results ≡ range_with_len first jobs
    → place < length results → ((get_or results place d).job ≡ first + place) × (place < jobs)
job-at first jobs place results d are below =
    let as-many : length results ≡ jobs
    = sym (length-map results (λ r. r.job)) ∙ (ap length are ∙ length-range_with_len first jobs) in
    let enough : place < jobs = omega arith in (
      sym (get_or-map (λ r. r.job) results place d 0 below)
          ∙ (ap (λ ns. get_or ns place 0) are ∙ get_or-range_with_len first jobs place 0 enough),
      enough,
    )

pub short_keys : {S : Type 0} (seed : ℕ) (name : Option Word) (first jobs : ℕ) (results : List (JobResult S))
    → numbers results ≡ range_with_len first jobs → All (IsRight seed name) results → NameFits name first jobs
    → All (λ r. HasShortKeys r.outcome) results
short_keys {S} seed name first jobs results are right fits place d below long =
    let at = job-at first jobs place results d are below in
    let one : JobResult S = get_or results place d in
    let P : JobOutcome S → Type 0 = λ found. IsOutcome seed name one.job found in
    let named : HasLongKey name one.job = subst P long (right place d below) in
    none-long name first jobs place at.1 fits (subst (HasLongKey name) at.0 named)
