use Rattle.mc_core.proofs.Taking.{fields_of, refused_by, taken_by, names_a_template}
use Rattle.mc_core.proofs.{HeldWorlds.Fields, HeldWorlds.shown, world.World.refusal.Goals.After-self}
use Rattle.mc_core.proofs.world.World.refusal.Goals as goal

fields : (c : After-self) → Fields c.args.checked.now.code c.self.inside.sections c.self.inside.notes.items
fields c = fields_of _ _ _ _ _ c.requires.held c.self.view_is c.self.invariant

pub refusal-requires : goal.refusal-requires
refusal-requires c =
    let known = fields (goal.at.refusal-requires c).After-self in
    rw (c.code.ensures.code, c.get.ensures) (names_a_template _ _ _ _ _ (shown _ _ _ known c.args.actor).machine)

pub returns-clause-refused : goal.returns-clause-refused
returns-clause-refused c =
    refused_by _ _ _ c.args.actor c.args.event.now c.args.self.now c.refusal.result (fields (goal.at.returns-clause-refused c).After-self) c.self.view_is
    (rw (c.code.ensures.code, c.get.ensures) at c.refusal.ensures)

pub returns-clause-taken : goal.returns-clause-taken
returns-clause-taken c =
    taken_by _ _ _ c.args.actor c.args.event.now c.args.self.now c.refusal.result (fields (goal.at.returns-clause-taken c).After-self) c.self.view_is
    (rw (c.code.ensures.code, c.get.ensures) at c.refusal.ensures)
