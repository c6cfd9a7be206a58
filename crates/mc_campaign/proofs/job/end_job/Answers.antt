use Rattle.mc_campaign.proofs.Judged.{judged_closed}
use Rattle.mc_campaign.proofs.job.end_job.Goals as goal

pub returns-clause-outcome : goal.returns-clause-outcome
returns-clause-outcome g c code judged =
    judged_closed code c.args.judged.run.world c.args.judged.run.lanes c.close_lanes-lanes.result c.args.judged.history
    c.args.judged.verdict judged c.close_lanes-lanes.ensures
