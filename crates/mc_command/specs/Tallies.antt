-- What is known of the jobs of a campaign, as far as they have run.
use Rattle.std.specs.Prelude.{◌≡◌, ◌⊎◌, ◌+◌, ◌<◌, ◌≤◌, ◌^◌, ℕ, Bool, Option, None, List, [], ◌++◌, length, flat_map}
use Rattle.mc_protocol.specs.Lines.{Word}
use Rattle.mc_campaign.specs.{ReportLines.IsEmpty, ReportLines.IsReportOf, ReportStatus.status_of, Runs.Allows}
use Rattle.mc_campaign.specs.declared.outcome.JobResult.{JobResult}
use Rattle.mc_command.specs.CampaignReports.{AreReports, BeginsRightly, EndsRightly, jobs_of, unexplained_of}
use Rattle.mc_command.specs.CampaignAnswers.{ShowsJobs, first_unexplained, text_of_report}
use Rattle.mc_command.specs.{declared.gathered.Gathered.Gathered, declared.tally.Tally.Tally}
use Rattle.mc_answers.specs.{Statuses.status_number, Streams.Grows}
use Rattle.mc_answers.specs.declared.status.Status.TheVariants as status
use Rattle.mc_cli.specs.{Args.GREATEST_JOBS, declared.args.Plan.Plan, declared.args.Until.Until}

-- how many there are, how many of them are unexplained, which is the first of these, and the status of one report of them all
pub record IsTally {S : Type 0} (results : List (JobResult S)) (tally : Tally) : Type 0 where
  pub jobs : tally.jobs ≡ length results
  pub unexplained : tally.unexplained ≡ unexplained_of results
  pub first : tally.first ≡ first_unexplained results
  pub status : status_number tally.status ≡ status_of results

-- what was gathered of all these jobs, what shows the first that are unexplained, where that is asked for, and the report of the last ones
pub record Gathers {S : Type 0} (show why : Bool) (all last : List (JobResult S)) (gathered : Gathered) : Type 0 where
  pub tally : IsTally all gathered.tally
  pub shown : ShowsJobs show why all gathered.shown.items
  pub report : IsReportOf last gathered.report

-- of no jobs
pub record IsNone (gathered : Gathered) : Type 0 where
  pub jobs : gathered.tally.jobs ≡ 0
  pub unexplained : gathered.tally.unexplained ≡ 0
  pub first : gathered.tally.first ≡ None
  pub status : gathered.tally.status ≡ status.Success
  pub shown : gathered.shown.items ≡ []
  pub report : IsEmpty gathered.report

-- what one has gathered becomes what the other has, with these jobs more
pub record Becomes {S : Type 0} (first : Gathered) (results : List (JobResult S)) (now : Gathered) : Type 0 where
  pub brief : now.report.brief ≡ first.report.brief
  pub show : now.show ≡ first.show
  pub how : now.how ≡ first.how
  pub gathers : (all last : List (JobResult S)) → Gathers first.show first.how.why all last first → length last ≤ length all
      → length all + length results < 2 ^ 64 → Gathers first.show first.how.why (all ++ results) (last ++ results) now

-- it is gathered as the line asks for it
pub record HasSettings (plan : Plan) (gathered : Gathered) : Type 0 where
  pub brief : gathered.report.brief ≡ plan.brief
  pub show : gathered.show ≡ plan.show
  pub why : gathered.how.why ≡ plan.why

-- what was written grew by the whole reports
abbrev pub HasWritten : {S : Type 0} → Bool → List (List (JobResult S)) → Option (List ℕ) → Option (List ℕ) → Type 0
HasWritten brief whole old new = Grows old new (flat_map (text_of_report brief) whole)

-- the jobs of whole reports, which were written, have run, and others may follow
pub record Waits (S : Type 0) (plan : Plan) (until : Until) (name : Option Word) (gathered : Gathered)
    (old : Option (List ℕ)) (new : Option (List ℕ)) : Type 0 where
  pub whole : List (List (JobResult S))
  pub reports : AreReports plan name whole []
  pub gathers : Gathers plan.show plan.why (jobs_of whole []) [] gathered
  pub settings : HasSettings plan gathered
  pub more : 0 < length whole → gathered.tally.jobs < plan.jobs
  pub allowed : 0 < length whole → Allows until.unexplained gathered.tally.unexplained
  pub written : HasWritten plan.brief whole old new

-- these were followed by those of one report more, which is whole or the last one, and has some unless there is no other
pub record HasGathered (S : Type 0) (plan : Plan) (until : Until) (name : Option Word) (gathered : Gathered)
    (old : Option (List ℕ)) (new : Option (List ℕ)) : Type 0 where
  pub whole : List (List (JobResult S))
  pub last : List (JobResult S)
  pub reports : AreReports plan name whole last
  pub gathers : Gathers plan.show plan.why (jobs_of whole last) last gathered
  pub settings : HasSettings plan gathered
  pub begins : (jobs_of whole last ≡ []) ⊎ BeginsRightly until (jobs_of whole last)
  pub ends : (length last ≡ GREATEST_JOBS) ⊎ EndsRightly until plan.jobs (jobs_of whole last)
  pub some : 0 < length whole → 0 < length last
  pub more : 0 < length whole → length (jobs_of whole []) < plan.jobs
  pub written : HasWritten plan.brief whole old new

-- or no more is known of them than that
pub record HasReported (S : Type 0) (plan : Plan) (name : Option Word) (old : Option (List ℕ)) (new : Option (List ℕ)) : Type 0 where
  pub whole : List (List (JobResult S))
  pub last : List (JobResult S)
  pub reports : AreReports plan name whole last
  pub more : 0 < length whole → length (jobs_of whole []) < plan.jobs
  pub written : HasWritten plan.brief whole old new
