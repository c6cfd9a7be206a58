use Rattle.std.proofs.Common.{rules}
use Rattle.mc_campaign.specs.ReportStatus.{accuses, is_clean}
use Rattle.mc_command.proofs.{ReportStatuses.one_of_three, TallyMore.tally_more}
use Rattle.mc_command.proofs.tally.Tally.with.Goals as goal

pub status_of-requires : goal.status_of-requires
status_of-requires g c = rw c.job_status.ensures (one_of_three (accuses c.args.one.now.outcome) (is_clean c.args.one.now.outcome))

pub returns : goal.returns
returns g c all is few =
    tally_more all c.args.one.now c.args.self _ c.status_of.result is few (search rules) (search rules) (search rules) c.joined.ensures
    (search rules)
