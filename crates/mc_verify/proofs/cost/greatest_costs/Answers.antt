use Rattle.mc_protocol.specs.declared.actor.Actor.TheVariants as actor
use Rattle.mc_sound.specs.declared.measure.Measure.TheVariants as measure
use Rattle.mc_verify.proofs.cost.greatest_costs.Goals as goal

pub returns-clause-requests : goal.returns-clause-requests
returns-clause-requests c = elim [
  | actor.P ↦ c.greatest.ensures measure.Requests
  | actor.A ↦ c.greatest-2.ensures measure.Requests
  | actor.B ↦ c.greatest-3.ensures measure.Requests
]

pub returns-clause-bytes : goal.returns-clause-bytes
returns-clause-bytes c = elim [
  | actor.P ↦ c.greatest.ensures measure.Bytes
  | actor.A ↦ c.greatest-2.ensures measure.Bytes
  | actor.B ↦ c.greatest-3.ensures measure.Bytes
]
