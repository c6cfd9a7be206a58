-- The call that a section may begin.
use Rattle.std.proofs.Common.{◌≡◌, ◌↔◌, ◌<◌, Option, Some, None, IfSome, List, length, refl, ap, sym, subst, ◌∙◌}
use Rattle.mc_protocol.specs.{Sections.section_of, declared.actor.Actor.Actor, declared.sections.Sections.Sections}
use Rattle.mc_protocol.specs.declared.event.Event.TheVariants as event
use Rattle.mc_code.specs.{Calls.IsCalling, Code.Code, Runs.Exchange, Standing.ComesTo, States.Tagged, States.State, States.ended, declared.instr.Call.Call}
use Rattle.mc_code.proofs.LookUps.{some_is}
use Rattle.mc_machine.specs.Machine as machines
use Rattle.mc_machine.specs.declared.machine.Machine.{Machine}
use Rattle.mc_core.specs.declared.ending.Ending.TheVariants as ending
use Rattle.mc_core.specs.Fields.{GoesOn, IsUpcoming, MayTake, held_in, world_in}
use Rattle.mc_core.specs.{declared.section.Section.Section, declared.step_refusal.StepRefusal.StepRefusal, Held.Held, Held.Stands, Steps.IsNext}
use Rattle.mc_core.specs.{Steps.IsRefused, Steps.MayBegin, Worlds.World, Worlds.Noted, Worlds.exchanges_of, Worlds.IsEnding}
use Rattle.mc_core.proofs.{LogLemmas.call_inside, HeldWorlds.Goes, HeldWorlds.shown, HeldWorlds.machine_stands, StepLemmas.next_once}

-- ---- of a machine

-- wherever the machine stands, it is about to make this call, if there is one
abbrev Calls : Code → Machine → Option Call → Type 0
Calls c m upcoming = (variables : List Tagged) (exchanges : List Exchange) (st : State) → machines.IsAt c m variables exchanges st
    → IfSome upcoming (IsCalling c (machines.actor_of m) variables exchanges)

-- wherever it stands, there is none exactly at the section's end
abbrev Ends : Code → Machine → Option Call → Type 0
Ends c m upcoming = (variables : List Tagged) (exchanges : List Exchange) (st : State) → machines.IsAt c m variables exchanges st
    → (upcoming ≡ None) ↔ ComesTo c (machines.actor_of m) variables exchanges st ended

-- a section that may begin a call has one
pub upcoming_is : (c : Code) (s : Section) (m : Machine) (upcoming : Option Call) → s.machine ≡ Some m → MayTake c s event.Begin
    → Calls c m upcoming → Ends c m upcoming → IsUpcoming c s upcoming
upcoming_is c s m None has (n, has_n, idle, goes) calls end =
    let on = subst (GoesOn c) (some_is n m (sym has_n ∙ has)) goes in absurd (on.4 ((end on.0 on.1 on.2 on.3).0 refl))
upcoming_is c s m (Some made) has may calls end = (m, made, has, refl, calls)

pub stands_to_begin : (c : Code) (s : Section) (m : Machine) → s.machine ≡ Some m → MayTake c s event.Begin → machines.Stands c m
stands_to_begin c s m has (n, has_n, idle, goes) =
    let on = subst (GoesOn c) (some_is n m (sym has_n ∙ has)) goes in (on.0, on.1, on.2, on.3)

-- ---- of a world

-- the call of a section that goes on is the one that it may begin
pub begins_upcoming : (c : Code) (s : Sections Section) (notes : List Noted) (who : Actor) (own : Section) (upcoming : Option Call) (h : Held)
    → Goes c s notes who event.Begin → own ≡ section_of s who → IsUpcoming c own upcoming → held_in s notes ≡ h
    → (made : Call) × (upcoming ≡ Some made) × MayBegin c h.world who made
begins_upcoming c s notes who own upcoming h may same (m, made, has, is, calls) held =
    (made, is, subst (λ (h : Held). MayBegin c h.world who made) held (record { begun = running.0; free = may.free; next = next }))
  where
    w : World
    w = world_in s notes

    running : IsEnding c w who ending.Running
    running = subst (IsEnding c w who) may.running (shown c s notes may.fields who).stands

    stands : Stands c w who m
    stands =
        machine_stands c w who (section_of s who).ending (section_of s who).machine m (shown c s notes may.fields who).machine
        (ap (λ (s : Section). s.machine) (sym same) ∙ has)

    next : IsNext c w who made
    next = (
      stands.variables,
      stands.begins,
      subst (λ other. IsCalling c other stands.variables (exchanges_of c w who) made) stands.actor
          (calls stands.variables (exchanges_of c w who) stands.st stands.at),
    )

-- it is that call alone
pub begins_exactly : (c : Code) (w : World) (who : Actor) (upcoming : Option Call)
    → ((made : Call) × (upcoming ≡ Some made) × MayBegin c w who made) → (made : Call) → (upcoming ≡ Some made) ↔ MayBegin c w who made
begins_exactly c w who upcoming (other, is, may) made = (
  λ same. subst (MayBegin c w who) (some_is other made (sym is ∙ same)) may,
  λ also. is ∙ ap Some (next_once c w who other made may.next also.next),
)

-- and none where that is refused
pub begins_none : (c : Code) (w : World) (who : Actor) (r : StepRefusal) → IsRefused c w who event.Begin r
    → (made : Call) → (None ≡ Some made) ↔ MayBegin c w who made
begins_none c w who r refused made = (λ same. absurd (cc), λ may. absurd (may.free r refused.against))

-- a call that begins names a template that is there
pub begins_named : (c : Code) (w : World) (who : Actor) (upcoming : Option Call)
    → ((made : Call) × (upcoming ≡ Some made) × MayBegin c w who made) → IfSome upcoming (λ made. made.template < length c.templates)
begins_named c w who upcoming (made, is, may) =
    subst (λ upcoming. IfSome upcoming (λ made. made.template < length c.templates)) (sym is)
    (call_inside c who may.next.0 (exchanges_of c w who) made may.next.2)
