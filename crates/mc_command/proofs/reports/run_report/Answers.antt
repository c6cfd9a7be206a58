use Rattle.std.proofs.Common.{◌∙◌, []}
use Rattle.mc_command.proofs.{ReportSteps.becomes_none, ReportSteps.run_gathered, Shown.true_verdict}
use Rattle.mc_command.proofs.reports.run_report.Goals as goal

pub run_jobs-requires-clause-accepts : goal.run_jobs-requires-clause-accepts
run_jobs-requires-clause-accepts g c l outlives r outcome within = true_verdict _ _ _ r.outcome outcome

pub returns-in-Ok-clause-gathered : goal.returns-in-Ok-clause-gathered
returns-in-Ok-clause-gathered g c old new waits =
    let run = c.in-Ok.ensures c.args.gathered [] (becomes_none c.args.gathered) in
    run_gathered c.args.target.now.plan c.args.until c.args.target.now.name c.args.gathered c.in-Ok.gathered old new run.0
    c.campaign_of-campaign.result c.bounds_after-bounds.result waits run.1 run.2 c.campaign_of-campaign.ensures.seed
    c.campaign_of-campaign.ensures.first (c.campaign_of-campaign.ensures.jobs ∙ c.min-jobs.ensures) c.campaign_of-campaign.ensures.name
    c.bounds_after-bounds.ensures.unexplained c.bounds_after-bounds.ensures.time c.requires.done c.requires.jobs
