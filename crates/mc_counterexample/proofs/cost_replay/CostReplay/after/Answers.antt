use Rattle.std.proofs.Common.{◌+◌, ap, arith}
use Rattle.mc_counterexample.proofs.CostReplays.{exceeds_after, exceeds_none, cost_stays_small}
use Rattle.mc_counterexample.proofs.cost_replay.CostReplay.after.Goals as goal

pub overflow_add-result : goal.overflow_add-result
overflow_add-result c =
    let small = c.requires.small in
    let own = c.own_cost.ensures.small in
    let inside = c.requires.inside c.args.named in
    let few = (c.templates.ensures.kept.sections c.args.named).few in
    omega (arith, small, own, inside, few)

pub returns-in-Some-clause-small : goal.returns-in-Some-clause-small
returns-in-Some-clause-small c =
    let some = c.in-Some.ensures.some in
    cost_stays_small c.args.code.now c.args.measure c.args.named c.args.self.now c.args.reply.0 some.0 c.args.reply.1 c.in-Some.step.places
    c.own_cost.result c.requires.structured some.2 c.requires.small c.own_cost.ensures.small (c.own_cost.ensures.cost some.0 some.1)

pub returns-in-Some-clause-some : goal.returns-in-Some-clause-some
returns-in-Some-clause-some c =
    let some = c.in-Some.ensures.some in
    exceeds_after c.args.code.now c.args.measure c.args.named c.args.self.now
    (record { places = c.in-Some.step.places; cost = c.args.self.now.cost + c.own_cost.result }) c.args.reply.0 some.0 c.args.reply.1
    (record { goes = some.2; cost = ap (λ n. c.args.self.now.cost + n) (c.own_cost.ensures.cost some.0 some.1) })

pub returns-in-None-clause-none : goal.returns-in-None-clause-none
returns-in-None-clause-none c =
    exceeds_none c.args.code.now c.args.measure c.args.named c.args.self.now c.args.reply.0 c.args.reply.1 c.in-None.ensures.none
