use Rattle.mc_timeline.proofs.Queues.{are_walked}
use Rattle.mc_timeline.proofs.laws.timelines_are_walked.Goals as goal

pub returns : goal.returns
returns c = are_walked
