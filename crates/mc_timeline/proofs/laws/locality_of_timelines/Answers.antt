use Rattle.mc_timeline.proofs.Timelines.{timelines_are_local}
use Rattle.mc_timeline.proofs.laws.locality_of_timelines.Goals as goal

pub returns : goal.returns
returns c = timelines_are_local
