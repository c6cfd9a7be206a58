use Rattle.std.proofs.Common.{◌∙◌}
use Rattle.mc_timeline.proofs.Following.{seen_cas}
use Rattle.mc_timeline.proofs.builder.TimelineBuilder.is_number_seen.Goals as goal

pub returns-in-Cas : goal.returns-in-Cas
returns-in-Cas c = rw (← c.self.view_is) (c.knows_number.ensures ∙ seen_cas c.self.invariant c.args.request.now c.in-Cas.is)
