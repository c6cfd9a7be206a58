-- The text of a report.
use Rattle.std.specs.Prelude.{ℕ, Bool, true, false, List, [], ◌++◌, length, codes, decimal, flat_map, count_by, if◌then◌else◌}
use Rattle.mc_protocol.specs.{Faults.fault_name, Words.actor_word, declared.actor.Actor.Actor, declared.sections.Sections.Sections}
use Rattle.mc_protocol.specs.declared.actor.Actor.TheVariants as actor
use Rattle.mc_core.specs.declared.ending.Ending.{Ending}
use Rattle.mc_core.specs.declared.ending.Ending.TheVariants as ending
use Rattle.mc_explain.specs.declared.verdict.Verdict.{Verdict}
use Rattle.mc_explain.specs.declared.verdict.Verdict.TheVariants as verdict
use Rattle.mc_campaign.specs.declared.outcome.JobOutcome.{JobOutcome}
use Rattle.mc_campaign.specs.{declared.outcome.JobResult.JobResult, declared.standing.Standing.Standing, ReportStatus.is_clean}
use Rattle.mc_campaign.specs.declared.outcome.JobOutcome.TheVariants as outcome
use Rattle.mc_campaign.specs.declared.standing.Standing.TheVariants as standing

-- ---- the line of a job

abbrev pub verdict_word : Verdict → List ℕ
verdict_word (verdict.Explained claim) = codes "explained"
verdict_word verdict.Unexplained = codes "unexplained"
verdict_word verdict.Undecided = codes "undecided"

-- a section that failed, and by which fault
abbrev pub failure_words : Actor → Ending → List ℕ
failure_words who ending.NotBegun = []
failure_words who ending.Running = []
failure_words who ending.Done = []
failure_words who (ending.Failed fault) = codes " " ++ (actor_word who ++ (codes " " ++ fault_name fault))

-- the sections that failed
abbrev pub failures_words : Sections Ending → List ℕ
failures_words endings =
    failure_words actor.P endings.p ++ (failure_words actor.A endings.a ++ failure_words actor.B endings.b)

abbrev pub outcome_words : {S : Type 0} → JobOutcome S → List ℕ
outcome_words (outcome.NotMade fault) = codes "not made"
outcome_words (outcome.NoLane who) = codes "no connection " ++ actor_word who
outcome_words (outcome.NotRun error) = codes "not run"
outcome_words (outcome.Ran run history found turns) = verdict_word found ++ failures_words run.world.endings

abbrev pub job_line : {S : Type 0} → JobResult S → List ℕ
job_line r = decimal r.job ++ (codes " " ++ (outcome_words r.outcome ++ codes "\n"))

-- ---- the line of totals

abbrev pub standing_by : Verdict → Standing
standing_by (verdict.Explained claim) = standing.Explained
standing_by verdict.Unexplained = standing.Unexplained
standing_by verdict.Undecided = standing.Other

-- what a job counts as
abbrev pub standing_of : {S : Type 0} → JobOutcome S → Standing
standing_of (outcome.NotMade fault) = standing.Other
standing_of (outcome.NoLane who) = standing.Other
standing_of (outcome.NotRun error) = standing.Other
standing_of (outcome.Ran run history found turns) = standing_by found

abbrev pub is_same_standing : Standing → Standing → Bool
is_same_standing standing.Explained standing.Explained = true
is_same_standing standing.Explained standing.Unexplained = false
is_same_standing standing.Explained standing.Other = false
is_same_standing standing.Unexplained standing.Explained = false
is_same_standing standing.Unexplained standing.Unexplained = true
is_same_standing standing.Unexplained standing.Other = false
is_same_standing standing.Other standing.Explained = false
is_same_standing standing.Other standing.Unexplained = false
is_same_standing standing.Other standing.Other = true

-- how many jobs count as this
abbrev pub count_of : {S : Type 0} → Standing → List (JobResult S) → ℕ
count_of wanted results = count_by (λ r. is_same_standing wanted (standing_of r.outcome)) results

-- how many jobs there are, how many of them are explained, how many are unexplained, and how many are neither
abbrev pub totals_by : ℕ → ℕ → ℕ → ℕ → List ℕ
totals_by jobs explained unexplained other =
    codes "jobs " ++ (decimal jobs
    ++ (codes " explained " ++ (decimal explained
    ++ (codes " unexplained " ++ (decimal unexplained
    ++ (codes " other " ++ (decimal other ++ codes "\n")))))))

abbrev pub totals_line : {S : Type 0} → List (JobResult S) → List ℕ
totals_line results =
    totals_by (length results) (count_of standing.Explained results) (count_of standing.Unexplained results)
    (count_of standing.Other results)

-- ---- all of it

abbrev pub report_text : {S : Type 0} → List (JobResult S) → List ℕ
report_text results = flat_map job_line results ++ totals_line results

-- the line of a job, if something was wrong with it
abbrev pub brief_job_line : {S : Type 0} → JobResult S → List ℕ
brief_job_line r = if is_clean r.outcome then [] else job_line r

-- the same without the lines of jobs with which nothing was wrong; the totals count them
abbrev pub brief_report_text : {S : Type 0} → List (JobResult S) → List ℕ
brief_report_text results = flat_map brief_job_line results ++ totals_line results

-- the line of a job in either of them
abbrev pub line_by : {S : Type 0} → Bool → JobResult S → List ℕ
line_by brief r = if brief then brief_job_line r else job_line r

abbrev pub text_by : {S : Type 0} → Bool → List (JobResult S) → List ℕ
text_by brief results = flat_map (line_by brief) results ++ totals_line results
