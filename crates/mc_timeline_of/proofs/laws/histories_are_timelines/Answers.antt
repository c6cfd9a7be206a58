use Rattle.mc_timeline_of.proofs.Keeping.{are_timelines}
use Rattle.mc_timeline_of.proofs.laws.histories_are_timelines.Goals as goal

pub returns : goal.returns
returns c = are_timelines
