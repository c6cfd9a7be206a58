use Rattle.mc_core.proofs.Taking.{fields_of, waiting_named}
use Rattle.mc_core.proofs.world.World.waiting.Goals as goal

pub returns-clause-template : goal.returns-clause-template
returns-clause-template c =
    λ d held. rw (c.waiting.ensures, c.get.ensures)
    (waiting_named d c.self.inside.sections _ c.args.actor (fields_of _ _ _ _ _ held c.self.view_is c.self.invariant))
