use Rattle.mc_protocol.specs.declared.actor.Actor.TheVariants as actor
use Rattle.mc_image.proofs.image_writer.push_budgets.Goals as goal

pub budget_bytes-requires-clause-requests : goal.budget_bytes-requires-clause-requests
budget_bytes-requires-clause-requests c = rw c.budget.ensures.budget (c.budget.ensures.kept.sections actor.P).requests

pub budget_bytes-requires-clause-bytes : goal.budget_bytes-requires-clause-bytes
budget_bytes-requires-clause-bytes c = rw c.budget.ensures.budget (c.budget.ensures.kept.sections actor.P).bytes

pub budget_bytes-requires-2-clause-requests : goal.budget_bytes-requires-2-clause-requests
budget_bytes-requires-2-clause-requests c = rw c.budget-2.ensures.budget (c.budget-2.ensures.kept.sections actor.A).requests

pub budget_bytes-requires-2-clause-bytes : goal.budget_bytes-requires-2-clause-bytes
budget_bytes-requires-2-clause-bytes c = rw c.budget-2.ensures.budget (c.budget-2.ensures.kept.sections actor.A).bytes

pub budget_bytes-requires-3-clause-requests : goal.budget_bytes-requires-3-clause-requests
budget_bytes-requires-3-clause-requests c = rw c.budget-3.ensures.budget (c.budget-3.ensures.kept.sections actor.B).requests

pub budget_bytes-requires-3-clause-bytes : goal.budget_bytes-requires-3-clause-bytes
budget_bytes-requires-3-clause-bytes c = rw c.budget-3.ensures.budget (c.budget-3.ensures.kept.sections actor.B).bytes
