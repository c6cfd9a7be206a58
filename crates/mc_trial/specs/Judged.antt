-- Runs and the verdicts on them.
use Rattle.std.specs.Prelude.{◌≡◌}
use Rattle.mc_model.specs.Notes.{History}
use Rattle.mc_code.specs.Code.{Code}
use Rattle.mc_core.specs.{Held.Held, Held.IsHeldBy, Histories.history_of}
use Rattle.mc_explain.specs.{Verdicts.IsStated, declared.verdict.Verdict.Verdict}
use Rattle.mc_run.specs.Agreement.{Agree, LaneRecords}
use Rattle.mc_trial.specs.Headline.{IsTrial}

-- A run of this code and the verdict on it: what was noted agrees with what the lanes recorded. What was noted is a trial of the
-- code with none of its events refused, and with this verdict, which is true of the run's history both ways.
pub record IsJudged (c : Code) (held : Held) (lanes : LaneRecords) (h : History) (v : Verdict) : Type 0 where
  pub agree : Agree c held.world lanes
  pub held_by : IsHeldBy c held
  pub trial : IsTrial c held.world.notes held.world 0 v
  pub history : h ≡ history_of c held.world
  pub stated : IsStated h v
