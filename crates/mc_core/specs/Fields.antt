-- What the fields of a world say. No public contract cites these.
use Rattle.std.specs.Prelude.{◌≡◌, ◌≢◌, ◌⊎◌, ℕ, ◌+◌, ◌*◌, ◌^◌, ◌<◌, ◌≤◌, Option, Some, None, List, [], ◌∷◌}
use Rattle.std.specs.Prelude.{◌++◌, length, zip, flat_map, option_to_list, slice_index_or, if◌then◌else◌}
use Rattle.std.specs.Vec.{vec_capacity, vec_len}
use Rattle.mc_protocol.specs.{Legal.is_fit_for, Sections.section_of, declared.actor.Actor.Actor, declared.event.Event.Event}
use Rattle.mc_protocol.specs.{declared.fault.Fault.Fault, declared.limits.TheConstants.REQUESTS_LIMIT, declared.reply.Reply.Reply}
use Rattle.mc_protocol.specs.declared.sections.Sections.{Sections}
use Rattle.mc_protocol.specs.declared.actor.Actor.TheVariants as actor
use Rattle.mc_protocol.specs.declared.event.Event.TheVariants as event
use Rattle.mc_code.specs.{Calls.IsCalling, Calls.template_of, States.Tagged, States.State, States.ended, declared.instr.Call.Call}
use Rattle.mc_code.specs.{Code.Code, Runs.Exchange, Standing.ComesTo}
use Rattle.mc_machine.specs.Machine as machines
use Rattle.mc_machine.specs.declared.machine.Machine.{Machine}
use Rattle.mc_model.specs.Notes as recorded
use Rattle.mc_model.specs.declared.note.Note.{Note}
use Rattle.mc_model.specs.declared.note.Note.TheVariants as note
use Rattle.mc_core.specs.declared.{ending.Ending.Ending, section.Section.Section, step_refusal.StepRefusal.StepRefusal}
use Rattle.mc_core.specs.Worlds.{World, Noted, event_of, events_of, with_section}
use Rattle.mc_core.specs.{Histories.begin_count, Histories.no_call, Logs.Log, Logs.request_of}
use Rattle.mc_core.specs.declared.ending.Ending.TheVariants as ending
use Rattle.mc_core.specs.declared.step_refusal.StepRefusal.TheVariants as refusal
use Rattle.mc_core.specs.{Held.Held, Safety.AreSmall, Steps.IsAgainst}

-- ---- what is seen

abbrev pub reply_in : Event → List Reply
reply_in (event.Reply reply) = reply ∷ []
reply_in _ = []

-- the replies that were noted of a section
abbrev pub replies_of : Actor → List Noted → List Reply
replies_of who notes = flat_map reply_in (events_of who notes)

abbrev pub waiting_in : Option Machine → Option Call
waiting_in None = None
waiting_in (Some m) = machines.outstanding_of m

abbrev pub fault_in : Ending → Option Fault
fault_in (ending.Failed fault) = Some fault
fault_in _ = None

-- a section's log: the first call that has a reply with the first reply, and so on
abbrev pub log_in : List Noted → Actor → Section → Log
log_in notes who s = record {
  answered = zip s.answered.items (replies_of who notes);
  waiting = waiting_in s.machine;
  fault = fault_in s.ending;
}

abbrev pub world_in : Sections Section → List Noted → World
world_in s notes = record {
  logs = record { p = log_in notes actor.P s.p; a = log_in notes actor.A s.a; b = log_in notes actor.B s.b };
  notes = notes;
}

abbrev pub held_in : Sections Section → List Noted → Held
held_in s notes = record {
  world = world_in s notes;
  endings = record { p = s.p.ending; a = s.a.ending; b = s.b.ending };
  machines = record { p = s.p.machine; a = s.a.machine; b = s.b.machine };
}

-- the same calls have replies, the same one waits, and the same fault ended both, or none
abbrev pub HasSameLog : Section → Section → Type 0
HasSameLog s t =
    (s.answered.items ≡ t.answered.items) × (waiting_in s.machine ≡ waiting_in t.machine) × (fault_in s.ending ≡ fault_in t.ending)

abbrev pub HaveSameLogs : Sections Section → Sections Section → Type 0
HaveSameLogs s t = HasSameLog s.p t.p × HasSameLog s.a t.a × HasSameLog s.b t.b

-- ---- what is kept

-- each call that has a reply has one in the notes, and there is room for all calls
pub record IsKept (notes : List Noted) (who : Actor) (s : Section) : Type 0 where
  pub replies : length s.answered.items ≡ length (replies_of who notes)
  pub room : REQUESTS_LIMIT ≤ vec_capacity s.answered

-- the same of all sections; there is room for all notes, and the numbers that were noted have at most 64 bits
pub record AreKept (s : Sections Section) (notes : List Noted) (capacity : ℕ) : Type 0 where
  pub sections : (who : Actor) → IsKept notes who (section_of s who)
  pub room : 3 * (2 * REQUESTS_LIMIT + 1) ≤ capacity
  pub small : AreSmall notes

-- ---- what is against an event

-- where the section goes on
abbrev pub refusal_of : Code → Option Call → Event → Option StepRefusal
refusal_of c None event.Begin = None
refusal_of c (Some made) event.Begin = Some refusal.Waiting
refusal_of c None (event.Reply reply) = Some refusal.NotWaiting
refusal_of c (Some made) (event.Reply reply) = if is_fit_for (template_of c made).verb reply then None else Some refusal.WrongReply
refusal_of c waiting (event.Fail fault) = None

abbrev pub refusal_in : Code → Ending → Option Call → Event → Option StepRefusal
refusal_in c ending.NotBegun waiting e = Some refusal.NotYet
refusal_in c ending.Running waiting e = refusal_of c waiting e
refusal_in c ending.Done waiting e = Some refusal.Over
refusal_in c (ending.Failed fault) waiting e = Some refusal.Over

-- nothing is against the event
abbrev pub IsFree : Code → World → Actor → Event → Type 0
IsFree c w who e = (r : StepRefusal) → IsAgainst c w who e r → ⊥

-- the section goes on, and nothing is against its event
abbrev pub MayStep : Code → Held → Actor → Event → Type 0
MayStep c h who e = (section_of h.endings who ≡ ending.Running) × IsFree c h.world who e

-- a call that waits names a template that is there
abbrev pub NamesATemplate : Code → Option Call → Type 0
NamesATemplate c None = Unit {0}
NamesATemplate c (Some made) = made.template < length c.templates

-- ---- what an event does to a section

-- the machine makes its next call
pub record MakesNext (c : Code) (m n : Machine) : Type 0 where
  pub made : Call
  pub idle : machines.outstanding_of m ≡ None
  pub outstanding : machines.outstanding_of n ≡ Some made
  pub actor : machines.actor_of n ≡ machines.actor_of m
  pub stands : (variables : List Tagged) (exchanges : List Exchange) (st : State)
      → machines.IsAt c m variables exchanges st → machines.IsAt c n variables exchanges st

-- the section is at its end, or goes on
abbrev pub EndsAs : Code → Machine → Ending → Type 0
EndsAs c m e = (variables : List Tagged) (exchanges : List Exchange) (st : State) → machines.IsAt c m variables exchanges st
    → ((e ≡ ending.Done) × ComesTo c (machines.actor_of m) variables exchanges st ended)
    ⊎ ((e ≡ ending.Running) × (ComesTo c (machines.actor_of m) variables exchanges st ended → ⊥))

-- the machine takes the reply to its call
pub record TakesReply (c : Code) (m : Machine) (made : Call) (reply : Reply) (n : Machine) : Type 0 where
  pub waits : machines.outstanding_of m ≡ Some made
  pub answered : machines.IsAnswered c m reply n
  pub idle : machines.outstanding_of n ≡ None
  pub actor : machines.actor_of n ≡ machines.actor_of m

-- the machine stands before its section's end
abbrev pub GoesOn : Code → Machine → Type 0
GoesOn c m = (variables : List Tagged) × (exchanges : List Exchange) × (st : State) × machines.IsAt c m variables exchanges st
    × (ComesTo c (machines.actor_of m) variables exchanges st ended → ⊥)

-- the section may take the event
abbrev pub MayTake : Code → Section → Event → Type 0
MayTake c s event.Begin = (m : Machine) × (s.machine ≡ Some m) × (machines.outstanding_of m ≡ None) × GoesOn c m
MayTake c s (event.Reply reply) = (m : Machine) × (s.machine ≡ Some m) × machines.Stands c m × machines.MayBeAnswered c m reply
    × (vec_len s.answered < vec_capacity s.answered)
MayTake c s (event.Fail fault) = Unit {0}

-- there is a call that the machine is about to make, and it is this one
abbrev pub IsUpcoming : Code → Section → Option Call → Type 0
IsUpcoming c s upcoming = (m : Machine) × (made : Call) × (s.machine ≡ Some m) × (upcoming ≡ Some made)
    × ((variables : List Tagged) (exchanges : List Exchange) (st : State) → machines.IsAt c m variables exchanges st
    → IsCalling c (machines.actor_of m) variables exchanges made)

-- the calls that have replies stay as they are, and so does the room
abbrev pub SameCalls : Section → Section → Type 0
SameCalls s t = (t.answered.items ≡ s.answered.items) × (vec_capacity s.answered ≤ vec_capacity t.answered)

-- the section before and after an event that it takes
abbrev pub Takes : Code → Section → Event → Section → Type 0
Takes c s event.Begin t = (m : Machine) × (n : Machine) × (s.machine ≡ Some m) × (t.machine ≡ Some n) × MakesNext c m n
    × SameCalls s t × (t.ending ≡ s.ending)
Takes c s (event.Reply reply) t = (m : Machine) × (n : Machine) × (made : Call) × (s.machine ≡ Some m) × (t.machine ≡ Some n)
    × TakesReply c m made reply n
    × (t.answered.items ≡ s.answered.items ++ made ∷ []) × (vec_capacity s.answered ≤ vec_capacity t.answered) × EndsAs c n t.ending
Takes c s (event.Fail fault) t = (t.machine ≡ s.machine) × SameCalls s t × (t.ending ≡ ending.Failed fault)

-- ---- how sections begin

-- the section begins with these numbers in its variables
pub record Begins (c : Code) (who : Actor) (numbers : List ℕ) (s t : Section) : Type 0 where
  pub m : Machine
  pub machine : t.machine ≡ Some m
  pub actor : machines.actor_of m ≡ who
  pub idle : machines.outstanding_of m ≡ None
  pub stands : (variables : List Tagged) → machines.StartsFrom c who numbers variables → (st : State) × machines.IsAt c m variables [] st
  pub ending : EndsAs c m t.ending
  pub answered : SameCalls s t

-- the branches may begin with the numbers of P's machine
pub record LeavesNumbers (c : Code) (p : Section) : Type 0 where
  pub m : Machine
  pub machine : p.machine ≡ Some m
  pub variables : List Tagged
  pub to_a : machines.StartsFrom c actor.A (machines.numbers_of m) variables
  pub to_b : machines.StartsFrom c actor.B (machines.numbers_of m) variables

-- both branches begin with them
pub record BranchesBegin (c : Code) (s t : Sections Section) : Type 0 where
  pub m : Machine
  pub machine : s.p.machine ≡ Some m
  pub a : Begins c actor.A (machines.numbers_of m) s.a t.a
  pub b : Begins c actor.B (machines.numbers_of m) s.b t.b

-- they do so where P is done
abbrev pub BranchesFollow : Code → Sections Section → Sections Section → Type 0
BranchesFollow c s t = (t.p ≡ s.p) × ((s.p.ending ≡ ending.Done) → BranchesBegin c s t) × ((s.p.ending ≢ ending.Done) → t ≡ s)

-- where it was an event of P, the branches may begin
abbrev pub AfterOwn : Code → Actor → Sections Section → Sections Section → Type 0
AfterOwn c actor.P s t = BranchesFollow c s t
AfterOwn c _ s t = t ≡ s

-- the sections before and after an event that one of them takes
abbrev pub AllTake : Code → Sections Section → Actor → Event → Sections Section → Type 0
AllTake c s who e t = (own : Section) × Takes c (section_of s who) e own × AfterOwn c who (with_section s who own) t

-- ---- what is recorded

-- the section's calls, the one that waits too
abbrev pub calls_of : Section → List Call
calls_of s = s.answered.items ++ option_to_list (waiting_in s.machine)

-- the note of an event, where the section began `begun` calls before
abbrev pub note_in : Code → Section → ℕ → Event → Option Note
note_in c s begun event.Begin = Some (note.Begin (request_of c (slice_index_or (calls_of s) begun no_call)))
note_in c s begun (event.Reply reply) = Some (note.Reply reply)
note_in c s begun (event.Fail fault) = None

-- a call that an event begins names a template that is there
abbrev pub BeginsNamed : Code → Section → ℕ → Event → Type 0
BeginsNamed c s begun event.Begin = (slice_index_or (calls_of s) begun no_call).template < length c.templates
BeginsNamed c s begun _ = Unit {0}

abbrev pub noted_by : Actor → Option Note → List recorded.Noted
noted_by who None = []
noted_by who (Some note) = (who, note) ∷ []

-- how many calls each section began
abbrev pub AreBegun : Sections ℕ → List Noted → Type 0
AreBegun begun notes = (who : Actor) → section_of begun who ≡ begin_count (events_of who notes)

-- one more call, where the event is one of the section
abbrev pub CountsBegin : Sections ℕ → Actor → Event → Sections ℕ → Type 0
CountsBegin begun who e more = (other : Actor) → section_of more other ≡ section_of begun other + begin_count (event_of other (who, e))

-- none of the counts is the greatest number
abbrev pub HaveRoom : Sections ℕ → Type 0
HaveRoom begun = (begun.p < 2 ^ 32) × (begun.a < 2 ^ 32) × (begun.b < 2 ^ 32)

-- P may be done after the event alone with numbers that it leaves
abbrev pub LeavesAfter : Code → Sections Section → Event → Type 0
LeavesAfter c s e = (p : Section) → Takes c s.p e p → p.ending ≡ ending.Done → LeavesNumbers c p
