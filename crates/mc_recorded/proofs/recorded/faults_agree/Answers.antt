use Rattle.mc_recorded.proofs.IsRecorded.{faults_answered}
use Rattle.mc_recorded.proofs.recorded.faults_agree.Goals as goal

pub returns-then-is_ended_by : goal.returns-then-is_ended_by
returns-then-is_ended_by c =
    faults_answered c.args.requests.now c.args.ended c.args.rest.now c.in-Some.fault c.args.fault c.is_shown.result c.in-Some.is
    (c.is_ended_by.ensures.0 c.if-is_ended_by.true) c.is_shown.ensures
