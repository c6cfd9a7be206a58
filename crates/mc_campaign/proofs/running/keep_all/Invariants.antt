use Rattle.std.proofs.Common.{◌≤◌, ◌++◌, List}
use Rattle.mc_campaign.specs.declared.outcome.JobResult.{JobResult}
use Rattle.mc_campaign.proofs.Runs.{AreKept}
use Rattle.mc_campaign.proofs.running.keep_all.Given as goal

-- what was kept so far
abbrev pub invariant-jobs : goal.invariant-jobs
invariant-jobs g l = record {
  fits : l.end ≤ l.campaign.jobs;
  kept : (first : g.row.K.Denot) (before : List (JobResult g.row.S.Denot)) → g.K.Keeper.becomes first before l.initial.keeper
      → (results : List (JobResult g.row.S.Denot)) × g.K.Keeper.becomes first (before ++ results) l.keeper
      × AreKept l.campaign l.bounds l.kept l.unexplained l.end results;
}
