use Rattle.std.proofs.Common.{◌∙◌, ap, sym, subst}
use Rattle.std.proofs.lemmas.Bool.{ltb-true, lt-ltb}
use Rattle.mc_sound.specs.Costs.{bound_of}
use Rattle.mc_flow.proofs.SectionCosts.{IsCostAt}
use Rattle.mc_verify.proofs.Exceeding.{exceeds_at}
use Rattle.mc_verify.proofs.budgets.exceeds.Goals as goal

pub returns : goal.returns
returns c =
    let measure = c.args.measure in
    let bound_is = c.bound.ensures ∙ ap (bound_of measure) c.budget.ensures.budget in
    let exceeds = exceeds_at c.args.code.now measure c.args.actor c.args.place c.bound.result c.by.result bound_is
    (subst (IsCostAt c.args.code.now c.args.actor measure c.args.place) (sym c.by.ensures) (c.cost_at.ensures measure)) in
    (λ over. exceeds.0 (ltb-true _ _ over), λ fault. lt-ltb _ _ (exceeds.1 fault))
