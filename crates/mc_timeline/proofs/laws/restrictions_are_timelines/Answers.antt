use Rattle.mc_timeline.proofs.RestrictedRules.{are_timelines}
use Rattle.mc_timeline.proofs.laws.restrictions_are_timelines.Goals as goal

pub returns : goal.returns
returns c = are_timelines
