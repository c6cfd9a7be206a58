use Rattle.std.proofs.Common.{arith, ◌≡◌, true, false, not, [], ap, sym, subst, ◌∙◌}
use Rattle.std.proofs.lemmas.Bool.{eqb-true}
use Rattle.mc_protocol.specs.declared.actor.Actor.TheVariants as actor
use Rattle.mc_counterexample.specs.Replays.{LeadsBetween}
use Rattle.mc_counterexample.proofs.InterleavingEnds.{rests_there, rests_elsewhere}
use Rattle.mc_counterexample.proofs.places.rests_at.Goals as goal

pub settle-requires-clause-structured : goal.settle-requires-clause-structured
settle-requires-clause-structured c = c.requires.structured c.args.named

pub ends-requires-clause-structured : goal.ends-requires-clause-structured
ends-requires-clause-structured c = c.requires.structured actor.P

pub ends-requires-clause-inside : goal.ends-requires-clause-inside
ends-requires-clause-inside c = c.requires.inside actor.P

pub returns-then-not-is_branch-clause-rests : goal.returns-then-not-is_branch-clause-rests
returns-then-not-is_branch-clause-rests c =
    let slid = subst (λ from. LeadsBetween c.args.code.now c.args.named from [] c.settle.result) c.get.ensures c.settle.ensures.slides in
    rests_there c.args.code.now c.args.named c.args.places.now c.args.place c.settle.result _ slid c.settle.ensures.rests c.if-settle-place.true (
      λ e branch. let is = c.is_branch.ensures ∙ branch in let clash : false ≡ true = ap not (sym is) ∙ e in absurd (cc),
      λ f. let isnt = c.if-not-is_branch.true in grind (arith, isnt),
    )

pub returns-else-not-is_branch-clause-rests : goal.returns-else-not-is_branch-clause-rests
returns-else-not-is_branch-clause-rests c =
    let slid = subst (λ from. LeadsBetween c.args.code.now c.args.named from [] c.settle.result) c.get.ensures c.settle.ensures.slides in
    rests_there c.args.code.now c.args.named c.args.places.now c.args.place c.settle.result c.ends.result slid c.settle.ensures.rests c.if-settle-place.true
    (λ e branch. c.ends.ensures.0 e, λ f. c.ends.ensures.1 (f (sym c.is_branch.ensures ∙ (let isnt = c.if-not-is_branch.false in grind (arith, isnt)))))

pub returns-else-settle-place-clause-rests : goal.returns-else-settle-place-clause-rests
returns-else-settle-place-clause-rests c =
    let slid = subst (λ from. LeadsBetween c.args.code.now c.args.named from [] c.settle.result) c.get.ensures c.settle.ensures.slides in (
      λ e. absurd (c.if-settle-place.false (eqb-true _ _ e)),
      λ there. absurd (rests_elsewhere c.args.code.now c.args.named c.args.places.now c.args.place c.settle.result slid c.settle.ensures.rests
          c.if-settle-place.false there.0 there.1),
    )
