use Rattle.std.proofs.Common.{◌≡◌, take}
use Rattle.mc_campaign.specs.ReportLines.{IsReportOf}
use Rattle.mc_campaign.proofs.report_text.text_of.Given as goal

abbrev pub invariant-jobs : goal.invariant-jobs
invariant-jobs g l = record {
  brief : l.lines.brief ≡ l.brief;
  jobs : IsReportOf (take l.one-index l.results) l.lines;
}
