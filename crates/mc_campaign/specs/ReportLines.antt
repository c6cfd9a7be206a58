-- The text of a report whose jobs come one after the other.
use Rattle.std.specs.Prelude.{◌≡◌, ◌++◌, ℕ, List, [], length, flat_map}
use Rattle.mc_campaign.specs.ReportText.{count_of, line_by, totals_by}
use Rattle.mc_campaign.specs.{declared.outcome.JobResult.JobResult, declared.report_lines.ReportLines.ReportLines}
use Rattle.mc_campaign.specs.declared.standing.Standing.TheVariants as standing

-- the lines of these jobs, and their counts
pub record IsReportOf {S : Type 0} (results : List (JobResult S)) (lines : ReportLines) : Type 0 where
  pub text : lines.text.items ≡ flat_map (line_by lines.brief) results
  pub jobs : lines.jobs ≡ length results
  pub explained : lines.explained ≡ count_of standing.Explained results
  pub unexplained : lines.unexplained ≡ count_of standing.Unexplained results
  pub other : lines.other ≡ count_of standing.Other results

-- no jobs yet
pub record IsEmpty (lines : ReportLines) : Type 0 where
  pub text : lines.text.items ≡ []
  pub jobs : lines.jobs ≡ 0
  pub explained : lines.explained ≡ 0
  pub unexplained : lines.unexplained ≡ 0
  pub other : lines.other ≡ 0

-- the lines, and the last one
abbrev pub printed : ReportLines → List ℕ
printed lines = lines.text.items ++ totals_by lines.jobs lines.explained lines.unexplained lines.other
