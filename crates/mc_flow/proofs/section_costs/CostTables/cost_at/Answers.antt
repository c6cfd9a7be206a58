use Rattle.std.proofs.Common.{sym, subst}
use Rattle.mc_flow.proofs.{SectionCosts.IsCostAt, SectionCosts.send_reached, SectionCosts.send_unreached, CallCosts.weight_inside, CallCosts.weight_named}
use Rattle.mc_flow.proofs.{CostSpread.zero_by}
use Rattle.mc_sound.proofs.Structured.{structured_template}
use Rattle.mc_flow.proofs.section_costs.CostTables.cost_at.Goals as goal

pub of-requires : goal.of-requires
of-requires c =
    let code = c.args.code.now in
    let named = structured_template code c.args.actor (c.requires.structured c.args.actor) c.args.place c.in-Send.template c.in-Send.next
    c.in-Send.ensures.instruction in
    weight_inside code c.args.self.now.weights c.in-Send.template c.requires.tables.weights named

pub returns-in-Some : goal.returns-in-Some
returns-in-Some c measure =
    let code = c.args.code.now in
    let weighs = weight_named code c.args.self.now.weights c.in-Send.template c.of.result c.requires.tables.weights
    c.of.ensures.requests c.of.ensures.bytes in
    send_reached code c.args.actor measure _ c.args.place c.in-Send.template c.in-Some.cost c.of.result c.plus.result c.in-Send.next weighs.0
    c.requires.code (c.requires.structured c.args.actor) (c.requires.tables.exact c.args.actor) c.in-Send.ensures.instruction weighs.1
    (weighs.2 measure) (c.plus.ensures measure) (sym c.in-Some.ensures)

pub returns-in-None : goal.returns-in-None
returns-in-None c measure =
    subst (IsCostAt c.args.code.now c.args.actor measure c.args.place) (sym (zero_by measure))
    (send_unreached c.args.code.now c.args.actor measure _ c.args.place (c.requires.tables.exact c.args.actor) (sym c.in-None.ensures))
