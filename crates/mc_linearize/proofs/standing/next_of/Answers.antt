use Rattle.std.proofs.Common.{◌≡◌, ◌∙◌, sym, ap, Some, slice_get, get_or, [], arith}
use Rattle.std.specs.Option.{option_copied}
use Rattle.mc_timeline.specs.Operations.{Operation}
use Rattle.mc_linearize.proofs.Settling.{none_began, began_later, client_there}
use Rattle.mc_linearize.proofs.standing.next_of.Goals as goal

pub returns-in_default : goal.returns-in_default
returns-in_default c =
    none_began c.args.queues.now c.args.counts.now c.args.place c.args.client (sym c.first_left.ensures.first ∙ ap option_copied c.in_default.is)

pub returns-then-operation-place : goal.returns-then-operation-place
returns-then-operation-place c =
    let began = ap (λ (o : Operation). o.began) c.operation.view_is in
    began_later c.args.queues.now c.args.counts.now c.args.place c.args.client c.in-Some.operation.now
    (sym c.first_left.ensures.first ∙ ap option_copied c.in-Some.is) (omega arith)

pub returns : goal.returns
returns c =
    let queues = c.args.queues.now in
    let counts = c.args.counts.now in
    let began = ap (λ (o : Operation). o.began) c.operation.view_is in
    let there : slice_get (get_or queues c.args.client []) (get_or counts c.args.client 0) ≡ Some c.in-Some.operation.now =
    sym c.first_left.ensures.first ∙ ap option_copied c.in-Some.is in
    record {
      client_there = client_there queues c.args.client (get_or counts c.args.client 0) c.in-Some.operation.now there;
      next = there;
      began = omega arith;
      counted = c.in-Some.ensures.counted;
    }
