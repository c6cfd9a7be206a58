use Rattle.std.proofs.Common.{◌∙◌, ◌+◌, ◌<◌, ◌^◌, ap, arith, length, take}
use Rattle.std.proofs.{lemmas.List.length-take-le, lemmas.List.take_all, lemmas.Result.IfOk-weaker}
use Rattle.mc_campaign.specs.ReportText.{text_by}
use Rattle.mc_campaign.proofs.ShownReport.{printed_is, report_next, report_of_none}
use Rattle.mc_campaign.proofs.report_text.text_of.Goals as goal

pub jobs-init : goal.jobs-init
jobs-init g c = record {
  brief = c.new-lines.ensures.brief;
  jobs = report_of_none c.new-lines.result c.new-lines.ensures.none;
}

pub jobs-preserved : goal.jobs-preserved
jobs-preserved g c =
    let i = c.jobs.one-index in
    let results = c.args.results.now in
    let long = length-take-le i results (omega (arith, c.jobs-test.true)) in
    let fits : length (take i results) + 1 < 2 ^ 64 = omega (arith, long, c.jobs-test.true, c.if-prove.false) in
    record {
      brief = c.add.ensures.brief ∙ c.jobs.invariant.brief;
      jobs = report_next results i c.one-item.result c.add.new.self c.jobs-test.true c.one-item.is
          (c.in_ok-add.ensures.more (take i results) c.jobs.invariant.jobs fits);
    }

pub returns : goal.returns
returns g c =
    let results = c.args.results.now in
    let all = take_all c.jobs.one-index results (omega (arith, c.jobs-test.false)) in
    IfOk-weaker c.into_text.result _ _ (λ text is.
    is ∙ (printed_is (take c.jobs.one-index results) c.jobs.lines c.jobs.invariant.jobs
    ∙ (ap (λ b. text_by b (take c.jobs.one-index results)) c.jobs.invariant.brief ∙ ap (text_by c.args.brief) all))) c.into_text.ensures
