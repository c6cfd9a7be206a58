-- What is known between two runs of a script.
use Rattle.std.specs.Prelude.{◌≡◌, ◌⊎◌, ℕ, ◌<◌, ◌≤◌, Bool, false, All, None, Some, List, length}
use Rattle.mc_cli.specs.declared.args.Repeat.{Repeat}
use Rattle.mc_code.specs.Code.{Code}
use Rattle.mc_command.specs.RepeatAnswers.{AreSettled, HandsOut, IsRightUnder, succeeds}
use Rattle.mc_command.specs.{RunAnswers.IsRightFor, Totals.totals_of, declared.repeating.Runs.Runs, declared.run.Played.Played}

-- there were these runs of the code so far
pub record IsSoFar (why : Bool) (code : Code) (all : List Played) (runs : Runs) : Type 0 where
  pub right : All (IsRightUnder why code) all
  pub own : AreSettled all → All (IsRightFor why code) all
  pub shown : IsRightFor why code runs.played
  pub settled : AreSettled all → runs.unsettled ≡ false
  pub hands_out : HandsOut all runs.number runs.played
  pub totals : runs.totals ≡ totals_of all

-- There were runs of the code until the status of one wasn't 0, or the time was over, or there were as many as are wanted; the last one is
-- handed out.
pub record AreFirst (repeat : Repeat) (why : Bool) (code : Code) (runs : Runs) : Type 0 where
  pub all : List Played
  pub so_far : IsSoFar why code all runs
  pub last : runs.number ≡ runs.totals.runs
  pub few : (most : ℕ) → repeat.times ≡ Some most → 0 < most → length all ≤ most
  pub goes_on : repeat.time ≡ None → (most : ℕ) → repeat.times ≡ Some most → 0 < most
      → (length all ≡ most) ⊎ (succeeds runs.played ≡ false)
