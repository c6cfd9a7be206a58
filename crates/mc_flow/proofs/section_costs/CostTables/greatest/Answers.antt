use Rattle.std.proofs.Common.{length, ap, arith}
use Rattle.mc_sound.specs.Costs.{cost_by}
use Rattle.mc_flow.proofs.SectionCosts.{greatest_goes_on, greatest_ends}
use Rattle.mc_flow.proofs.section_costs.CostTables.greatest.Goals as goal

pub places-preserved : goal.places-preserved
places-preserved c measure =
    greatest_goes_on c.args.code.now c.args.actor measure c.places.place (cost_by measure c.places.most) (cost_by measure c.cost_at.result)
    (cost_by measure c.max-most.result) (c.max-most.ensures measure) (c.cost_at.ensures measure) (c.places.invariant measure)

pub returns : goal.returns
returns c measure =
    let all = ap length c.section-place-end.ensures in
    greatest_ends c.args.code.now c.args.actor measure c.places.place (cost_by measure c.places.most) (omega arith) (c.places.invariant measure)
