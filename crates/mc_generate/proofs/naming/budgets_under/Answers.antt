use Rattle.mc_protocol.specs.declared.actor.Actor.TheVariants as actor
use Rattle.mc_generate.proofs.CodeUnder.{budget-small}
use Rattle.mc_generate.proofs.naming.budgets_under.Goals as goal

pub budget_under-requires : goal.budget_under-requires
budget_under-requires c = budget-small c.args.code.now c.budget.ensures.kept actor.P c.budget.result c.budget.ensures.budget

pub budget_under-requires-2 : goal.budget_under-requires-2
budget_under-requires-2 c = budget-small c.args.code.now c.budget.ensures.kept actor.A c.budget-2.result c.budget-2.ensures.budget

pub budget_under-requires-3 : goal.budget_under-requires-3
budget_under-requires-3 c = budget-small c.args.code.now c.budget.ensures.kept actor.B c.budget-3.result c.budget-3.ensures.budget
