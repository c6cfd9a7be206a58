-- Worlds: what happened in three sections of code, and how each of them stands.
use Rattle.std.specs.Prelude.{◌≡◌, Some, None, List, [], ◌∷◌, ◌++◌, flat_map, if◌then◌else◌}
use Rattle.mc_protocol.specs.{Sections.section_of, declared.actor.Actor.Actor, declared.event.Event.Event}
use Rattle.mc_protocol.specs.declared.sections.Sections.{Sections}
use Rattle.mc_protocol.specs.declared.actor.Actor.TheVariants as actor
use Rattle.mc_code.specs.{Code.Code, Runs.Exchange}
use Rattle.mc_code.specs.{Standing.BeginsAfter, Standing.ComesTo, States.Tagged, States.State, States.ended}
use Rattle.mc_model.specs.Notes.{is_same_section}
use Rattle.mc_core.specs.{declared.ending.Ending.Ending, Logs.Log, Logs.new_log, Logs.exchanges_in}
use Rattle.mc_core.specs.declared.ending.Ending.TheVariants as ending

-- an event, with its section
abbrev pub Noted : Type 0
Noted = Actor × Event

-- the log of each section, and what was noted of all three, in order
pub record World : Type 0 where
  pub logs : Sections Log
  pub notes : List Noted

-- in which nothing happened
abbrev pub new_world : World
new_world = record { logs = record { p = new_log; a = new_log; b = new_log }; notes = [] }

abbrev pub log_of : World → Actor → Log
log_of w who = section_of w.logs who

-- the event, if it is one of the section
abbrev pub event_of : Actor → Noted → List Event
event_of who (other, e) = if is_same_section who other then e ∷ [] else []

-- the events of a section, in order
abbrev pub events_of : Actor → List Noted → List Event
events_of who notes = flat_map (event_of who) notes

-- with this in place of what one section has
abbrev pub with_section : {T : Type 0} → Sections T → Actor → T → Sections T
with_section s actor.P own = record s { p = own }
with_section s actor.A own = record s { a = own }
with_section s actor.B own = record s { b = own }

-- with one more note, after which the section has this log
abbrev pub with_note : World → Actor → Event → Log → World
with_note w who e log = record { logs = with_section w.logs who log; notes = w.notes ++ (who, e) ∷ [] }

-- ---- how a section stands

-- what the section has exchanged
abbrev pub exchanges_of : Code → World → Actor → List Exchange
exchanges_of c w who = exchanges_in c (log_of w who)

-- these are the variables with which the section begins: a branch with those that P left
abbrev pub BeginsIn : Code → World → Actor → List Tagged → Type 0
BeginsIn c w who variables = BeginsAfter c (exchanges_of c w actor.P) who variables

-- the section has come to its end
abbrev pub HasEnded : Code → World → Actor → Type 0
HasEnded c w who =
    (variables : List Tagged) × (st : State) × BeginsIn c w who variables × ComesTo c who variables (exchanges_of c w who) st ended

-- at its end without a fault, and with no call that waits for its reply
abbrev pub IsDone : Code → World → Actor → Type 0
IsDone c w who = ((log_of w who).fault ≡ None) × ((log_of w who).waiting ≡ None) × HasEnded c w who

-- P begins at once, and a branch when P is done
abbrev pub IsBegun : Code → World → Actor → Type 0
IsBegun c w actor.P = Unit {0}
IsBegun c w actor.A = IsDone c w actor.P
IsBegun c w actor.B = IsDone c w actor.P

-- how a section stands
abbrev pub IsEnding : Code → World → Actor → Ending → Type 0
IsEnding c w who ending.NotBegun = IsBegun c w who → ⊥
IsEnding c w who ending.Running = IsBegun c w who × ((log_of w who).fault ≡ None) × (IsDone c w who → ⊥)
IsEnding c w who ending.Done = IsBegun c w who × IsDone c w who
IsEnding c w who (ending.Failed fault) = IsBegun c w who × ((log_of w who).fault ≡ Some fault)
