-- What a worker sends.
use Rattle.std.specs.Prelude.{ℕ, Option}
use Rattle.mc_protocol.specs.Lines.{Word}
use Rattle.mc_campaign.specs.declared.outcome.JobOutcome.{JobOutcome}

-- what a job came to, with the seed, the limit of turns and the name, if it has one, of its campaign
pub record Message (S : Type 0) : Type 0 where
  pub seed : ℕ
  pub limit : ℕ
  pub name : Option Word
  pub job : ℕ
  pub outcome : JobOutcome S
