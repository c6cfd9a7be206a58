-- What a report has.
use Rattle.std.specs.Prelude.{ℕ, List}
use Rattle.mc_campaign.specs.declared.outcome.JobResult.{JobResult}

-- the seed of a campaign, and what each of its jobs came to
pub record Reported (S : Type 0) : Type 0 where
  pub seed : ℕ
  pub results : List (JobResult S)
