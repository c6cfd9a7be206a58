use Rattle.std.proofs.Common.{◌≡◌, Some, None, sym, subst, ◌∙◌}
use Rattle.mc_code.specs.declared.instr.Call.{Call}
use Rattle.mc_protocol.specs.declared.event.Event.TheVariants as event
use Rattle.mc_core.specs.{Fields.MayTake, Steps.MayBegin}
use Rattle.mc_core.proofs.Upcoming.{begins_upcoming, begins_exactly, begins_none, begins_named}
use Rattle.mc_core.proofs.{Taking.goes, Taking.may_take, world.World.upcoming.Goals.After-upcoming}
use Rattle.mc_core.proofs.world.World.upcoming.Goals as goal

pub upcoming-requires : goal.upcoming-requires
upcoming-requires c =
    let may = goes _ _ _ _ _ _ event.Begin c.requires.held c.self.view_is c.self.invariant (c.refusal.ensures.taken c.in-None.is) in
    subst (λ own. MayTake c.args.checked.now.code own event.Begin) (sym c.get-section.ensures)
    (may_take _ _ _ _ _ may c.know_code.ensures.kept c.know_code.ensures.sound)

pub returns-in-Some-clause-call : goal.returns-in-Some-clause-call
returns-in-Some-clause-call c = begins_none _ _ _ c.in-Some.field-0 c.in-Some.ensures.refused

begins : (c : After-upcoming)
    → (made : Call) × (c.upcoming.result ≡ Some made) × MayBegin c.args.checked.now.code c.args.self.now.world c.args.actor made
begins c =
    let may = goes _ _ _ _ _ _ event.Begin c.requires.held c.self.view_is c.self.invariant (c.refusal.ensures.taken c.in-None.is) in
    begins_upcoming _ _ _ _ _ c.upcoming.result c.args.self.now may c.get-section.ensures c.upcoming.ensures c.self.view_is

pub returns-in-None-clause-call : goal.returns-in-None-clause-call
returns-in-None-clause-call c = begins_exactly _ _ _ _ (begins (goal.at.returns-in-None-clause-call c).After-upcoming)

pub returns-in-None-clause-none : goal.returns-in-None-clause-none
returns-in-None-clause-none c none =
    let clash : None ≡ Some c.upcoming.ensures.1 = sym none ∙ c.upcoming.ensures.3 in absurd (cc)

pub returns-in-None-clause-template : goal.returns-in-None-clause-template
returns-in-None-clause-template c = begins_named _ _ _ _ (begins (goal.at.returns-in-None-clause-template c).After-upcoming)
