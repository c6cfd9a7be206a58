-- The exit status after a report.
use Rattle.std.specs.Prelude.{ℕ, Bool, true, false, ◌||◌, ◌&&◌, List, if◌then◌else◌}
use Rattle.std.specs.List.{list_any, list_all}
use Rattle.mc_protocol.specs.declared.fault.Fault.{Fault}
use Rattle.mc_protocol.specs.declared.fault.Fault.TheVariants as fault
use Rattle.mc_core.specs.declared.ending.Ending.{Ending}
use Rattle.mc_core.specs.declared.ending.Ending.TheVariants as ending
use Rattle.mc_explain.specs.declared.verdict.Verdict.{Verdict}
use Rattle.mc_explain.specs.declared.verdict.Verdict.TheVariants as verdict
use Rattle.mc_campaign.specs.{declared.outcome.JobOutcome.JobOutcome, declared.outcome.JobResult.JobResult}
use Rattle.mc_campaign.specs.declared.outcome.JobOutcome.TheVariants as outcome

-- ---- sections

abbrev pub is_bad_reply : Fault → Bool
is_bad_reply fault.WriteFailed = false
is_bad_reply fault.ReadFailed = false
is_bad_reply fault.Ended = false
is_bad_reply fault.BadReply = true
is_bad_reply fault.ErrorLine = false
is_bad_reply fault.TooMuch = false
is_bad_reply fault.Closed = false
is_bad_reply fault.Memory = false

-- what came and is no reply ended the section
abbrev pub ended_badly : Ending → Bool
ended_badly ending.NotBegun = false
ended_badly ending.Running = false
ended_badly ending.Done = false
ended_badly (ending.Failed found) = is_bad_reply found

abbrev pub is_done : Ending → Bool
is_done ending.NotBegun = false
is_done ending.Running = false
is_done ending.Done = true
is_done (ending.Failed found) = false

-- ---- jobs

abbrev pub is_unexplained : Verdict → Bool
is_unexplained (verdict.Explained claim) = false
is_unexplained verdict.Unexplained = true
is_unexplained verdict.Undecided = false

abbrev pub is_explained : Verdict → Bool
is_explained (verdict.Explained claim) = true
is_explained verdict.Unexplained = false
is_explained verdict.Undecided = false

-- the job speaks against the server: nothing explains it, or what came and is no reply ended a section
abbrev pub accuses : {S : Type 0} → JobOutcome S → Bool
accuses (outcome.NotMade fault) = false
accuses (outcome.NoLane who) = false
accuses (outcome.NotRun error) = false
accuses (outcome.Ran run history found turns) =
    is_unexplained found
    || (ended_badly run.world.endings.p || (ended_badly run.world.endings.a || ended_badly run.world.endings.b))

-- nothing was wrong with the job: it is explained, and all its sections are done
abbrev pub is_clean : {S : Type 0} → JobOutcome S → Bool
is_clean (outcome.NotMade fault) = false
is_clean (outcome.NoLane who) = false
is_clean (outcome.NotRun error) = false
is_clean (outcome.Ran run history found turns) =
    is_explained found && (is_done run.world.endings.p && (is_done run.world.endings.a && is_done run.world.endings.b))

-- ---- all of them

-- one of them speaks against the server
abbrev pub one_accuses : {S : Type 0} → List (JobResult S) → Bool
one_accuses results = list_any (λ r. accuses r.outcome) results

-- nothing was wrong with any of them
abbrev pub are_clean : {S : Type 0} → List (JobResult S) → Bool
are_clean results = list_all (λ r. is_clean r.outcome) results

-- by whether a job speaks against the server, and whether nothing was wrong with any job
abbrev pub status_by : Bool → Bool → ℕ
status_by accuses clean = if accuses then 1 else (if clean then 0 else 4)

-- the exit status of a report: 1 if a job speaks against the server, otherwise 0 if nothing was wrong with any job, and 4 if something was
abbrev pub status_of : {S : Type 0} → List (JobResult S) → ℕ
status_of results = status_by (one_accuses results) (are_clean results)
