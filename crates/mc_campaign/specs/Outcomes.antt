-- What the jobs of a campaign come to.
use Rattle.std.specs.Prelude.{◌≡◌, ◌≢◌, ℕ, Option, None}
use Rattle.mc_protocol.specs.Lines.{Word}
use Rattle.mc_code.specs.Code.{Code}
use Rattle.mc_explain.specs.Verdicts.{IsWithin}
use Rattle.mc_run.specs.Agreement.{LaneRecords}
use Rattle.mc_trial.specs.Judged.{IsJudged}
use Rattle.mc_generate.specs.JobCodes.{code_for, IsJobFault}
use Rattle.mc_generate.specs.declared.fault.JobFault.TheVariants as fault
use Rattle.mc_campaign.specs.declared.outcome.JobOutcome.{JobOutcome}
use Rattle.mc_campaign.specs.declared.outcome.JobOutcome.TheVariants as outcome

-- no lane has its stream, so each is closed
abbrev pub AreClosed : LaneRecords → Type 0
AreClosed lanes = (lanes.p.stream ≡ None) × (lanes.a.stream ≡ None) × (lanes.b.stream ≡ None)

-- the lanes after they were closed
abbrev pub closed_lanes : LaneRecords → LaneRecords
closed_lanes lanes = record {
  p = record lanes.p { stream = None };
  a = record lanes.a { stream = None };
  b = record lanes.b { stream = None };
}

-- a job that has this code may come to this: a run that was judged, and the lanes are closed
abbrev pub IsOutcomeOf : {S : Type 0} → Code → JobOutcome S → Type 0
IsOutcomeOf c (outcome.NotMade fault) = ⊥
IsOutcomeOf c (outcome.NoLane actor) = Unit {0}
IsOutcomeOf c (outcome.NotRun error) = Unit {0}
IsOutcomeOf c (outcome.Ran run history verdict turns) = IsJudged c run.world run.lanes history verdict × AreClosed run.lanes

-- a job of a campaign with this seed and this name, if it has one, may come to this: it has no code, or that which its script has
-- under the name
abbrev pub IsOutcome : {S : Type 0} → ℕ → Option Word → ℕ → JobOutcome S → Type 0
IsOutcome seed name job (outcome.NotMade fault) = IsJobFault name seed job fault
IsOutcome seed name job (outcome.NoLane actor) = Unit {0}
IsOutcome seed name job (outcome.NotRun error) = Unit {0}
IsOutcome seed name job (outcome.Ran run history verdict turns) =
    IsJudged (code_for name seed job) run.world run.lanes history verdict × AreClosed run.lanes

-- where the job ran, its history was judged within this limit of turns
abbrev pub IsJudgedWithin : {S : Type 0} → ℕ → JobOutcome S → Type 0
IsJudgedWithin limit (outcome.NotMade fault) = Unit {0}
IsJudgedWithin limit (outcome.NoLane actor) = Unit {0}
IsJudgedWithin limit (outcome.NotRun error) = Unit {0}
IsJudgedWithin limit (outcome.Ran run history verdict turns) = IsWithin limit verdict turns

-- that a key becomes too long isn't what kept the job from running
abbrev pub HasShortKeys : {S : Type 0} → JobOutcome S → Type 0
HasShortKeys found = found ≢ outcome.NotMade fault.KeyTooLong
