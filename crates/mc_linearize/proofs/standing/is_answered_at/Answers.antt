use Rattle.std.proofs.Common.{◌∙◌, sym, ap}
use Rattle.std.specs.Option.{option_copied}
use Rattle.mc_timeline.specs.Operations.{Operation}
use Rattle.mc_linearize.specs.Standing.{came_at}
use Rattle.mc_linearize.proofs.Settling.{answered_first, answered_none}
use Rattle.mc_linearize.proofs.standing.is_answered_at.Goals as goal

pub returns-in-Some : goal.returns-in-Some
returns-in-Some c =
    c.came_at.ensures ∙ ap (λ (o : Operation). came_at c.args.place o.answer) c.operation.view_is
    ∙ sym (answered_first c.args.queues.now c.args.counts.now c.args.client c.args.place c.in-Some.operation.now
    (sym c.first_left.ensures.first ∙ ap option_copied c.in-Some.is))

pub returns-in-None : goal.returns-in-None
returns-in-None c =
    sym (answered_none c.args.queues.now c.args.counts.now c.args.client c.args.place (sym c.first_left.ensures.first ∙ ap option_copied c.in-None.is))
