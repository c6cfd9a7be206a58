use Rattle.std.proofs.Common.{arith, vec_capacity}
use Rattle.mc_core.specs.{Fields.AreKept, Fields.world_in, Fields.held_in, Held.IsHeldBy, Steps.IsStep}
use Rattle.mc_core.proofs.Taking.{goes, step_leaves, step_room, step_kept, step_taken, may_take}
use Rattle.mc_core.proofs.{HeldWorlds.Goes, world.World.step.Goals.In-None, world.World.step.Goals.After-add_note}
use Rattle.mc_core.proofs.world.World.step.Goals as goal

-- what is known before the event is taken
before : (c : In-None) → Goes c.args.checked.now.code c.self.inside.sections c.self.inside.notes.items c.args.actor c.args.event
before c = goes _ _ _ _ _ _ _ c.requires.held c.self.view_is c.self.invariant (c.refusal.ensures.taken c.in-None.is)

pub take_event-requires-clause-may : goal.take_event-requires-clause-may
take_event-requires-clause-may c =
    may_take _ _ _ _ _ (before (goal.at.take_event-requires-clause-may c).In-None) c.know_code.ensures.kept c.know_code.ensures.sound

pub take_event-requires-clause-leaves : goal.take_event-requires-clause-leaves
take_event-requires-clause-leaves c = λ is. step_leaves _ _ _ _ _ (before (goal.at.take_event-requires-clause-leaves c).In-None) is

pub add_note-requires : goal.add_note-requires
add_note-requires c =
    let room = step_room _ _ _ _ _ _ (vec_capacity c.self.inside.notes) (before (goal.at.add_note-requires c).In-None)
    c.take_event.ensures c.self.invariant c.know_code.ensures.kept c.know_code.ensures.sound in
    let len = c.self.inside.notes.ok.0 in
    omega (arith, room, len)

-- what is kept, and what was done
kept : (c : After-add_note) → AreKept c.take_event.new.sections c.add_note.new.notes.items (vec_capacity c.add_note.new.notes)
kept c =
    step_kept c.args.checked.now.code c.self.inside.sections c.take_event.new.sections c.self.inside.notes.items c.add_note.new.notes.items c.args.actor
    c.args.event _ _ c.take_event.ensures c.self.invariant c.know_event.ensures c.add_note.ensures.items c.add_note.ensures.room

after : (c : After-add_note) → IsStep c.args.checked.now.code c.args.self.now.world c.args.actor c.args.event
    (world_in c.take_event.new.sections c.add_note.new.notes.items)
    × IsHeldBy c.args.checked.now.code (held_in c.take_event.new.sections c.add_note.new.notes.items)
after c =
    let may = goes _ _ _ _ _ _ _ c.requires.held c.self.view_is c.self.invariant (c.refusal.ensures.taken c.in-None.is) in
    step_taken _ _ c.take_event.new.sections _ c.add_note.new.notes.items _ _ c.args.self.now may c.take_event.ensures c.self.view_is
    c.add_note.ensures.items

pub invariant_of-self : goal.invariant_of-self
invariant_of-self c = kept (goal.at.invariant_of-self c).After-add_note

pub returns-clause-taken : goal.returns-clause-taken
returns-clause-taken c = (after (goal.at.returns-clause-taken c).After-add_note).0

pub returns-clause-held : goal.returns-clause-held
returns-clause-held c = (after (goal.at.returns-clause-held c).After-add_note).1

pub returns-clause-small : goal.returns-clause-small
returns-clause-small c = (kept (goal.at.returns-clause-small c).After-add_note).small
