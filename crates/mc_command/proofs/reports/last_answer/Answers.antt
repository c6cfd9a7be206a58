use Rattle.std.proofs.Common.{◌∙◌, ◌++◌, ap₂, append_assoc, sym}
use Rattle.mc_command.proofs.{ReportSteps.ends_with, TallyMore.report_is}
use Rattle.mc_command.specs.CampaignAnswers.{text_of_report}
use Rattle.mc_command.proofs.reports.last_answer.Goals as goal

pub take_report-requires : goal.take_report-requires
take_report-requires g c = sym c.requires.brief

pub returns : goal.returns
returns g c until old new has over =
    let plan = c.args.target.now.plan in
    let after = c.take_report.new.self in
    let took = c.take_report.ensures in
    let report = c.in_ok-output.ensures.text ∙ report_is plan.brief has.last c.args.gathered.report c.requires.brief has.gathers.report in
    ends_with plan until c.args.target.now.name c.args.gathered after old new c.in_ok-end.end.items _ has over took.tally took.shown
    (rw c.campaign_of-campaign.ensures.seed at c.in_ok-end.ensures)
    (c.in_ok-extend_from_slice-2.ensures.items
    ∙ (ap₂ (λ a b. a ++ b) (c.in_ok-extend_from_slice.ensures.items ∙ ap₂ (λ a b. a ++ b) report c.as_slice.ensures.value)
    c.as_slice-2.ensures.value
    ∙ append_assoc (text_of_report plan.brief has.last) c.in_ok-end.end.items after.shown.items))
