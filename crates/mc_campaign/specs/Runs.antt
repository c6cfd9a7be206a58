-- Which jobs of a campaign run.
use Rattle.std.specs.Prelude.{◌≡◌, ◌⊎◌, ℕ, ◌<◌, ◌≤◌, true, All, Option, Some, List, [], ◌++◌, length, map}
use Rattle.std.specs.{List.range_with_len, Option.option_copied}
use Rattle.mc_settings.specs.JobKeys.{NameFits}
use Rattle.mc_campaign.specs.{Outcomes.HasShortKeys, Outcomes.IsJudgedWithin, Outcomes.IsOutcome}
use Rattle.mc_campaign.specs.{ReportText.count_of, ReportText.standing_of}
use Rattle.mc_campaign.specs.{declared.bounds.Bounds.Bounds, declared.campaign.Campaign.Campaign}
use Rattle.mc_campaign.specs.{declared.outcome.JobResult.JobResult, declared.standing.Standing.Standing}
use Rattle.mc_campaign.specs.declared.standing.Standing.TheVariants as standing

-- fewer are unexplained than end the campaign
abbrev pub Allows : Option ℕ → ℕ → Type 0
Allows bound unexplained = (most : ℕ) → bound ≡ Some most → unexplained < most

-- after this many jobs, of which this many are unexplained, no other begins: there are no more, or as many are unexplained as end the
-- campaign, or there were some and there is a time, which may be over
abbrev pub IsOver : Bounds → ℕ → ℕ → ℕ → Type 0
IsOver bounds jobs kept unexplained = (jobs ≤ kept)
    ⊎ (((most : ℕ) × (bounds.unexplained ≡ Some most) × (most ≤ unexplained))
    ⊎ ((0 < kept) × (bounds.has_time ≡ true)))

-- these jobs are each within 64 of the first ones that were kept when the last of them was handed out, and fewer of those were unexplained
-- than end the campaign
pub record AreAhead {S : Type 0} (bound : Option ℕ) (results : List (JobResult S)) : Type 0 where
  pub earlier : List (JobResult S)
  pub others : List (JobResult S)
  pub parts : results ≡ earlier ++ others
  pub some : 0 < length others
  pub few : length others ≤ 64
  pub allowed : Allows bound (count_of standing.Unexplained earlier)

-- a job of this number, which counts as this, and what it may come to
pub record IsNext {S : Type 0} (campaign : Campaign) (job : ℕ) (standing : Standing) (r : JobResult S) : Type 0 where
  pub number : r.job ≡ job
  pub standing_is : standing ≡ standing_of r.outcome
  pub outcome : IsOutcome campaign.seed (option_copied campaign.name) r.job r.outcome
  pub turns : IsJudgedWithin campaign.limit r.outcome

-- these are the first jobs of the campaign, each once, in order, until none begins, and what each may come to
pub record AreRun {S : Type 0} (campaign : Campaign) (bounds : Bounds) (results : List (JobResult S)) : Type 0 where
  pub numbers : map (λ r. r.job) results ≡ range_with_len campaign.first (length results)
  pub jobs : length results ≤ campaign.jobs
  pub outcomes : All (λ r. IsOutcome campaign.seed (option_copied campaign.name) r.job r.outcome) results
  pub turns : All (λ r. IsJudgedWithin campaign.limit r.outcome) results
  pub short : NameFits (option_copied campaign.name) campaign.first (length results) → All (λ r. HasShortKeys r.outcome) results
  pub begins : (results ≡ []) ⊎ AreAhead bounds.unexplained results
  pub ends : IsOver bounds campaign.jobs (length results) (count_of standing.Unexplained results)
