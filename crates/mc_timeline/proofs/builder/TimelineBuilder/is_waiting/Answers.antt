use Rattle.std.proofs.Common.{◌∙◌}
use Rattle.mc_timeline.proofs.Following.{tests_waiting}
use Rattle.mc_timeline.proofs.builder.TimelineBuilder.is_waiting.Goals as goal

pub returns : goal.returns
returns c = rw (← c.self.view_is) (c.is_asked.ensures ∙ tests_waiting c.self.invariant c.args.client)
