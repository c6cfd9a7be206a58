-- What `selftest` writes.
use Rattle.std.specs.Prelude.{◌≡◌, ◌⊎◌, None, List, ℕ, codes, false}
use Rattle.mc_code.specs.Code.{Code}
use Rattle.mc_explain.specs.declared.verdict.Verdict.TheVariants as verdict
use Rattle.mc_campaign.specs.{ReportStatus.status_of, declared.outcome.JobResult.JobResult}
use Rattle.mc_command.specs.CampaignAnswers.{AreResults, Connection}
use Rattle.mc_command.specs.{RunAnswers.IsRightFor, RunAnswers.SpellsUnder, declared.run.Played.Played, declared.selftest.Part.Part}
use Rattle.mc_command.specs.declared.run.Played.TheVariants as played
use Rattle.mc_command.specs.declared.selftest.Part.TheVariants as part
use Rattle.mc_answers.specs.declared.status.Status.{Status}
use Rattle.mc_answers.specs.declared.status.Status.TheVariants as status

-- the script that runs against the server with a race
abbrev pub two_increments : List ℕ
two_increments =
    codes "script 1\nkeys a\nbudget P 2 26\nbudget A 1 10\nbudget B 1 10\nP\nset a 0 =5\nA\nincr a 1\nB\nincr a 1\nend\n"

-- the jobs 0 to 19 of seed 1 came to what is explained, with all their sections done
abbrev pub IsHonestSeen : Type 0
IsHonestSeen = (results : List (JobResult Connection)) × AreResults 1 None 0 20 results × (status_of results ≡ 0)

-- what is played is a run that is unexplained
abbrev pub IsUnexplained : Played → Type 0
IsUnexplained (played.Ended held h found why) = found ≡ verdict.Unexplained
IsUnexplained (played.NoConnection section) = ⊥
IsUnexplained played.NotRun = ⊥

-- a run of the two increments is unexplained
abbrev pub IsRaceSeen : Type 0
IsRaceSeen =
    (code : Code) × (given : Played) × SpellsUnder None two_increments code × IsRightFor false code given × IsUnexplained given

-- what a part is to show
abbrev pub IsSeen : Part → Type 0
IsSeen part.Honest = IsHonestSeen
IsSeen part.Racy = IsRaceSeen

abbrev pub passed_text : List ℕ
passed_text = codes "honest jobs 20 explained 20 unexplained 0 other 0\nracy unexplained\nok\n"

abbrev pub failed_text : List ℕ
failed_text = codes "failed\n"

-- both came out as they must, and that is written; or it failed
abbrev pub Selftests : List ℕ → Status → Type 0
Selftests output ended =
    (IsHonestSeen × IsRaceSeen × (output ≡ passed_text) × (ended ≡ status.Success))
    ⊎ ((output ≡ failed_text) × (ended ≡ status.Unexplained))
