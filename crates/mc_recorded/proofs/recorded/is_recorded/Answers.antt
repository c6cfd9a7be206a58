use Rattle.std.proofs.Common.{subst, sym}
use Rattle.mc_recorded.specs.{Fronts.CountsReplies, Recorded.StandAtFront}
use Rattle.mc_recorded.proofs.IsRecorded.{all_answered}
use Rattle.mc_recorded.proofs.recorded.is_recorded.Goals as goal

pub returns-in-Some : goal.returns-in-Some
returns-in-Some g c =
    let requests = c.args.requests.now in
    let got = c.got-got.result.now in
    let counts = subst (CountsReplies requests got) c.in-Some.is c.in_ok-count.ensures in
    all_answered requests c.args.ended c.args.lane.now c.sent.result.now got c.bytes_after.result.now c.fault.result c.faults_agree.result
    c.sent.ensures c.got-got.ensures.got c.fault.ensures (c.in_ok-were_sent.ensures.0 c.if-not-branch.false)
    (subst (StandAtFront requests got) (sym c.bytes_after.ensures) counts.1) c.faults_agree.ensures
