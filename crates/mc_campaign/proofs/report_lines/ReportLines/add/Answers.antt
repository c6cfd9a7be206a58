use Rattle.std.proofs.Common.{rules}
use Rattle.mc_campaign.proofs.ShownReport.{report_more}
use Rattle.mc_campaign.proofs.report_lines.ReportLines.add.Goals as goal

pub returns-clause-more : goal.returns-clause-more
returns-clause-more g c results is small =
    report_more results c.args.one.now c.args.self.now _ is small (search rules) (search rules) (search rules) (search rules) (search rules)
    (search rules)
