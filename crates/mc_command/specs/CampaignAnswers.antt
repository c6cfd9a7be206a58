-- What `campaign` writes.
use Rattle.std.specs.Prelude.{◌≡◌, ◌⊎◌, ℕ, Bool, true, false, All, Option, Some, None, List, [], ◌∷◌, ◌++◌, codes, decimal, filter}
use Rattle.std.specs.Prelude.{map, option_map, take, if◌then◌else◌}
use Rattle.std.specs.List.{find, range_with_len}
use Rattle.std.specs.declared.net.tcp.TcpStream.{TcpStream}
use Rattle.mc_lane.specs.declared.wire.Wire.{Wire}
use Rattle.mc_protocol.specs.Lines.{Word}
use Rattle.mc_model.specs.Notes.{History}
use Rattle.mc_explain.specs.{Verdicts.IsTrueOf, declared.verdict.Verdict.Verdict}
use Rattle.mc_script_text.specs.PrintedScript.{script_text}
use Rattle.mc_script.specs.Script.{Script}
use Rattle.mc_generate.specs.{Generated.generated, Shrunk.IsShrunk}
use Rattle.mc_settings.specs.JobKeys.{NameFits}
use Rattle.mc_campaign.specs.ReportText.{brief_report_text, is_same_standing, report_text, standing_of}
use Rattle.mc_campaign.specs.declared.outcome.JobOutcome.{JobOutcome}
use Rattle.mc_campaign.specs.{Outcomes.HasShortKeys, Outcomes.IsOutcome, ReportStatus.status_of, declared.outcome.JobResult.JobResult}
use Rattle.mc_campaign.specs.declared.outcome.JobOutcome.TheVariants as outcome
use Rattle.mc_history.specs.PrintedHistory.{history_text}
use Rattle.mc_campaign.specs.declared.standing.Standing.TheVariants as standing
use Rattle.mc_answers.specs.{Statuses.status_number, WhyAnswers.IsWhy, WhyAnswers.printed_line, declared.status.Status.Status}
use Rattle.mc_cli.specs.declared.args.Plan.{Plan}
use Rattle.mc_connect.specs.declared.socket.Socket.{Socket}
use Rattle.mc_answers.specs.declared.status.Status.TheVariants as status

-- these are as many jobs of this seed, from the first on, in order, and what each may come to, with its keys under the name, if there is
-- one; where it leaves all keys short, none is kept from running by a key that is too long
pub record AreResults {S : Type 0} (seed : ℕ) (name : Option Word) (first : ℕ) (jobs : ℕ) (results : List (JobResult S)) : Type 0 where
  pub jobs_in_order : map (λ r. r.job) results ≡ range_with_len first jobs
  pub outcomes : All (λ r. IsOutcome seed name r.job r.outcome) results
  pub short : NameFits name first jobs → All (λ r. HasShortKeys r.outcome) results

abbrev pub is_unexplained : {S : Type 0} → JobResult S → Bool
is_unexplained r = is_same_standing standing.Unexplained (standing_of r.outcome)

-- the number of the first job that is unexplained
abbrev pub first_unexplained : {S : Type 0} → List (JobResult S) → Option ℕ
first_unexplained results = option_map (λ r. r.job) (find is_unexplained results)

abbrev pub shrunk_text : Script → List ℕ
shrunk_text less = codes "shrunk\n" ++ script_text less

-- the text is that of a script that may be left of the job's
abbrev pub IsShrunkText : ℕ → ℕ → List ℕ → Type 0
IsShrunkText seed job text = (less : Script) × IsShrunk (generated seed job) less × (text ≡ shrunk_text less)

-- where a job is unexplained, the report is followed by such a text of the first of them
abbrev pub IsEnd : ℕ → Option ℕ → List ℕ → Type 0
IsEnd seed None text = text ≡ []
IsEnd seed (Some job) text = IsShrunkText seed job text

-- the report, or the brief one
abbrev pub text_of_report : {S : Type 0} → Bool → List (JobResult S) → List ℕ
text_of_report brief results = if brief then brief_report_text results else report_text results

-- ---- the histories of unexplained jobs

-- as many of them are shown at most
abbrev pub MOST_SHOWN : ℕ
MOST_SHOWN = 10

-- those that are shown: the first that are unexplained, this many at most
abbrev pub shown_jobs : {S : Type 0} → ℕ → List (JobResult S) → List (JobResult S)
shown_jobs most results = take most (filter is_unexplained results)

-- a history with the verdict on it: why nothing explains it, where that is so and asked for, and then the history
abbrev pub IsShownRun : Bool → History → Verdict → List ℕ → Type 0
IsShownRun why h found text = (reasons : List ℕ) × IsWhy why printed_line h found reasons × (text ≡ reasons ++ history_text h)

abbrev pub IsShownOutcome : {S : Type 0} → Bool → JobOutcome S → List ℕ → Type 0
IsShownOutcome why (outcome.NotMade fault) text = text ≡ []
IsShownOutcome why (outcome.NoLane actor) text = text ≡ []
IsShownOutcome why (outcome.NotRun error) text = text ≡ []
IsShownOutcome why (outcome.Ran run history found turns) text = IsShownRun why history found text

-- a line with the job's number, and then what it came to
abbrev pub IsShownJob : {S : Type 0} → Bool → JobResult S → List ℕ → Type 0
IsShownJob why r text =
    (shown : List ℕ) × IsShownOutcome why r.outcome shown × (text ≡ codes "job " ++ (decimal r.job ++ (codes "\n" ++ shown)))

-- these jobs, one after the other
abbrev pub AreShown : {S : Type 0} → Bool → List (JobResult S) → List ℕ → Type 0
AreShown why [] text = text ≡ []
AreShown why (r ∷ rest) text =
    (one : List ℕ) × (others : List ℕ) × IsShownJob why r one × AreShown why rest others × (text ≡ one ++ others)

-- where they are asked for, this many at most
abbrev pub ShowsAtMost : {S : Type 0} → ℕ → Bool → Bool → List (JobResult S) → List ℕ → Type 0
ShowsAtMost most false why results text = text ≡ []
ShowsAtMost most true why results text = AreShown why (shown_jobs most results) text

abbrev pub ShowsJobs : {S : Type 0} → Bool → Bool → List (JobResult S) → List ℕ → Type 0
ShowsJobs show why results text = ShowsAtMost MOST_SHOWN show why results text

-- the verdict on a job's run is true of its history
abbrev pub HasTrueVerdict : {S : Type 0} → JobOutcome S → Type 0
HasTrueVerdict (outcome.NotMade fault) = Unit {0}
HasTrueVerdict (outcome.NoLane actor) = Unit {0}
HasTrueVerdict (outcome.NotRun error) = Unit {0}
HasTrueVerdict (outcome.Ran run history found turns) = IsTrueOf history found

-- ---- all of it

-- the exit statuses that there may be after a report
abbrev pub IsReportStatus : ℕ → Type 0
IsReportStatus n = (n ≡ 0) ⊎ ((n ≡ 1) ⊎ (n ≡ 4))

-- the text is that of the report with these results, what follows it, and the histories of unexplained jobs where they are asked for, with
-- why nothing explains them where that is; the status is that of the report
pub record Reports {S : Type 0} (seed : ℕ) (brief show why : Bool) (results : List (JobResult S)) (output : List ℕ) (ended : Status)
    : Type 0 where
  pub end : List ℕ
  pub is_end : IsEnd seed (first_unexplained results) end
  pub shown : List ℕ
  pub is_shown : ShowsJobs show why results shown
  pub text : output ≡ text_of_report brief results ++ (end ++ shown)
  pub status : status_number ended ≡ status_of results

abbrev pub not_run_text : List ℕ
not_run_text = codes "not run\n"

-- there is a report of the campaign over streams of this type, with its keys under the name, if there is one, and it is written; or there
-- is none
abbrev pub CampaignsOver : (S : Type 0) → Plan → Option Word → List ℕ → Status → Type 0
CampaignsOver S plan name output ended =
    ((results : List (JobResult S)) × AreResults plan.seed name plan.first plan.jobs results
    × Reports plan.seed plan.brief plan.show plan.why results output ended)
    ⊎ ((output ≡ not_run_text) × (ended ≡ status.NoAnswer))

-- the streams of a campaign against a server
abbrev pub Connection : Type 0
Connection = Wire (Socket TcpStream)
