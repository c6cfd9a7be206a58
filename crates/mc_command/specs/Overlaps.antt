-- Whether a request of A and one of B were outstanding at once.
use Rattle.std.specs.Prelude.{Bool, true, false, ◌&&◌, Option, Some, None, List, [], ◌∷◌, map}
use Rattle.std.specs.List.{last_or, list_any}
use Rattle.mc_protocol.specs.{declared.actor.Actor.Actor, declared.event.Event.Event}
use Rattle.mc_protocol.specs.declared.actor.Actor.TheVariants as actor
use Rattle.mc_protocol.specs.declared.event.Event.TheVariants as event
use Rattle.mc_core.specs.Worlds.{Noted, events_of}

-- it is the begin of a request
abbrev pub is_begin : Event → Bool
is_begin event.Begin = true
is_begin (event.Reply reply) = false
is_begin (event.Fail fault) = false

abbrev pub is_some_begin : Option Event → Bool
is_some_begin None = false
is_some_begin (Some e) = is_begin e

-- after these notes a request of the section is outstanding: its begin is the section's last event, so it is neither answered nor failed
abbrev pub is_outstanding : Actor → List Noted → Bool
is_outstanding section notes = is_some_begin (last_or None (events_of section notes))

-- a request of A is, and one of B
abbrev pub are_both_outstanding : List Noted → Bool
are_both_outstanding notes = is_outstanding actor.A notes && is_outstanding actor.B notes

-- each front of the list, from none of it to all
abbrev pub fronts : {X : Type 0} → List X → List (List X)
fronts [] = [] ∷ []
fronts (x ∷ xs) = [] ∷ map (λ front. x ∷ front) (fronts xs)

-- after some of these notes both are outstanding
abbrev pub overlaps : List Noted → Bool
overlaps notes = list_any are_both_outstanding (fronts notes)
