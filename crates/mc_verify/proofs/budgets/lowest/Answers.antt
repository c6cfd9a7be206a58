use Rattle.std.proofs.Common.{below_more, length, ap, arith}
use Rattle.mc_verify.proofs.Exceeding.{exceeds_inside}
use Rattle.mc_verify.proofs.budgets.lowest.Goals as goal

pub places-preserved : goal.places-preserved
places-preserved c = below_more _ _ c.places.invariant (λ fault. absurd (let never = c.if-exceeds.ensures.1 fault in cc))

pub returns-clause-none : goal.returns-clause-none
returns-clause-none c =
    let all = ap length c.section-place-end.ensures in
    λ place fault. let inside = exceeds_inside c.args.code.now c.args.measure c.args.actor place fault in
    c.places.invariant place (omega (arith, inside)) fault
