use Rattle.std.proofs.Common.{◌∙◌}
use Rattle.mc_campaign.proofs.ShownReport.{brief_text_whole, ok_appended}
use Rattle.mc_campaign.proofs.report_text.print_brief_report.Goals as goal

pub returns-clause-ok : goal.returns-clause-ok
returns-clause-ok g c =
    let whole = brief_text_whole c.in_ok-text.text.items c.as_slice.result.now c.in_ok-text.ensures c.as_slice.ensures.value c.report.view_is in
    ok_appended c.extend_from_slice.result c.args.out.now.items c.extend_from_slice.new.self.items c.as_slice-2.result.now _
    c.extend_from_slice.ensures.items (c.as_slice-2.ensures.value ∙ whole)
