use Rattle.mc_campaign.proofs.job.play_job.Goals as goal

pub returns-in-Ok-played-clause-outcome : goal.returns-in-Ok-played-clause-outcome
returns-in-Ok-played-clause-outcome g c = c.end_job.ensures.outcome c.args.checked.now.code c.in-Ok-played.ensures.judged
