use Rattle.std.proofs.Common.{◌∙◌, ap, sym}
use Rattle.mc_campaign.proofs.ShownReport.{report_of_none}
use Rattle.mc_command.proofs.{ReportSteps.report_written, TallyMore.report_is}
use Rattle.mc_command.proofs.reports.write_report.Goals as goal

pub returns-clause-waits : goal.returns-clause-waits
returns-clause-waits g c plan until name earlier has many left allowed =
    let took = c.take_report.ensures in
    let asked = c.requires ∙ has.settings.brief in
    let text = c.in_ok-text.ensures.text ∙ report_is plan.brief has.last _ has.settings.brief has.gathers.report in
    report_written plan until name c.args.gathered.now c.take_report.new.self earlier _ _ has many left allowed
    record {
      brief = took.brief ∙ asked;
      show = took.show ∙ has.settings.show;
      why = ap (λ how. how.why) took.how ∙ has.settings.why;
    }
    record {
      tally = rw took.tally has.gathers.tally;
      shown = rw took.shown has.gathers.shown;
      report = report_of_none c.take_report.new.self.report took.none;
    }
    (rw (c.as_slice.ensures.value, text) at c.in_ok-write_all.ensures.0)
