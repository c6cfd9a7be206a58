-- What `campaign` writes where its line says until when jobs begin.
use Rattle.std.specs.Prelude.{◌≡◌, ◌⊎◌, ℕ, ◌<◌, ◌≤◌, true, All, Option, Some, None, is_some, List, [], ◌++◌, length, flat_map}
use Rattle.mc_protocol.specs.Lines.{Word}
use Rattle.mc_campaign.specs.{ReportStatus.status_of, ReportText.count_of, declared.outcome.JobResult.JobResult}
use Rattle.mc_campaign.specs.declared.standing.Standing.TheVariants as standing
use Rattle.mc_command.specs.CampaignAnswers.{AreResults, CampaignsOver, Connection, IsEnd, ShowsJobs, first_unexplained}
use Rattle.mc_command.specs.CampaignAnswers.{not_run_text, text_of_report}
use Rattle.mc_cli.specs.{Args.GREATEST_JOBS, declared.args.Plan.Plan, declared.args.Until.Until}
use Rattle.mc_answers.specs.{Statuses.status_number, Writing.out_of_memory_text, declared.status.Status.Status}
use Rattle.mc_answers.specs.declared.status.Status.TheVariants as status

-- at most this many jobs are handed out that were not kept
abbrev pub MOST_AHEAD : ℕ
MOST_AHEAD = 64

-- ---- which jobs run

abbrev pub unexplained_of : {S : Type 0} → List (JobResult S) → ℕ
unexplained_of results = count_of standing.Unexplained results

-- the last of these jobs was handed out when fewer of those before `others` were unexplained than end the campaign
pub record BeginsRightly {S : Type 0} (until : Until) (results : List (JobResult S)) : Type 0 where
  pub earlier : List (JobResult S)
  pub others : List (JobResult S)
  pub parts : results ≡ earlier ++ others
  pub some : 0 < length others
  pub few : length others ≤ MOST_AHEAD
  pub allowed : (most : ℕ) → until.unexplained ≡ Some most → unexplained_of earlier < most

-- after these jobs no other begins: there are no more jobs, or as many are unexplained as end the campaign, or there were some and there is
-- a time, which may be over
abbrev pub EndsRightly : {S : Type 0} → Until → ℕ → List (JobResult S) → Type 0
EndsRightly until jobs results = (length results ≡ jobs)
    ⊎ (((most : ℕ) × (until.unexplained ≡ Some most) × (most ≤ unexplained_of results))
    ⊎ ((0 < length results) × (is_some until.time ≡ true)))

-- ---- reports

-- the jobs of whole reports, and those of the report after them
abbrev pub jobs_of : {S : Type 0} → List (List (JobResult S)) → List (JobResult S) → List (JobResult S)
jobs_of whole last = flat_map (λ report. report) whole ++ last

-- these are jobs of the campaign, each once, in order, in reports of 10,000 and one that may have fewer; this one has none only where there
-- is no other
pub record AreReports {S : Type 0} (plan : Plan) (name : Option Word) (whole : List (List (JobResult S))) (last : List (JobResult S))
    : Type 0 where
  pub results : AreResults plan.seed name plan.first (length (jobs_of whole last)) (jobs_of whole last)
  pub jobs : length (jobs_of whole last) ≤ plan.jobs
  pub full : All (λ report. length report ≡ GREATEST_JOBS) whole
  pub fits : length last ≤ GREATEST_JOBS

-- ---- all of it

-- the last report is written, with what follows it: the status is that of one report of all jobs
pub record EndsWith {S : Type 0} (plan : Plan) (until : Until) (whole : List (List (JobResult S))) (last : List (JobResult S))
    (rest : List ℕ) (ended : Status) : Type 0 where
  pub begins : (jobs_of whole last ≡ []) ⊎ BeginsRightly until (jobs_of whole last)
  pub ends : EndsRightly until plan.jobs (jobs_of whole last)
  pub some : 0 < length whole → 0 < length last
  pub end : List ℕ
  pub is_end : IsEnd plan.seed (first_unexplained (jobs_of whole last)) end
  pub shown : List ℕ
  pub is_shown : ShowsJobs plan.show plan.why (jobs_of whole last) shown
  pub text : rest ≡ text_of_report plan.brief last ++ (end ++ shown)
  pub status : status_number ended ≡ status_of (jobs_of whole last)

-- no thread could be made or memory ran out, and that is written in place of the last report
abbrev pub BreaksOff : List ℕ → Status → Type 0
BreaksOff rest ended = ((rest ≡ not_run_text) ⊎ (rest ≡ out_of_memory_text)) × (ended ≡ status.NoAnswer)

-- reports are written of jobs that ran over streams of this type, each as soon as it is whole and another job follows; then the last one,
-- or why there is none
pub record InReports (S : Type 0) (until : Until) (plan : Plan) (name : Option Word) (output : List ℕ) (ended : Status) : Type 0 where
  pub whole : List (List (JobResult S))
  pub last : List (JobResult S)
  pub are : AreReports plan name whole last
  pub rest : List ℕ
  pub text : output ≡ flat_map (text_of_report plan.brief) whole ++ rest
  pub ends : EndsWith plan until whole last rest ended ⊎ BreaksOff rest ended

-- a campaign has reports where the line says until when jobs begin, and else one
abbrev pub CampaignsUntil : (S : Type 0) → Option Until → Plan → Option Word → List ℕ → Status → Type 0
CampaignsUntil S None plan name output ended = CampaignsOver S plan name output ended
CampaignsUntil S (Some until) plan name output ended = InReports S until plan name output ended

abbrev pub Campaigns : Plan → Option Word → List ℕ → Status → Type 0
Campaigns plan name output ended = CampaignsUntil Connection plan.until plan name output ended
