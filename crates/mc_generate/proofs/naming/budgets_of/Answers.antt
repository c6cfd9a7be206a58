use Rattle.mc_protocol.specs.declared.actor.Actor.TheVariants as actor
use Rattle.mc_generate.proofs.CodeUnder.{budget-small}
use Rattle.mc_generate.proofs.naming.budgets_of.Goals as goal

pub returns-clause-small : goal.returns-clause-small
returns-clause-small c = (
  budget-small c.args.code.now c.budget.ensures.kept actor.P c.budget.result c.budget.ensures.budget,
  budget-small c.args.code.now c.budget.ensures.kept actor.A c.budget-2.result c.budget-2.ensures.budget,
  budget-small c.args.code.now c.budget.ensures.kept actor.B c.budget-3.result c.budget-3.ensures.budget,
)
