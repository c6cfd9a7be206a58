-- What holds of every world of sound code, whatever its events are.
use Rattle.std.specs.Prelude.{◌≡◌, ◌⊎◌, ℕ, ◌+◌, ◌<◌, ◌≤◌, ◌^◌, Option, Some, None, List, [], ◌∷◌, ◌++◌, length, map, All}
use Rattle.mc_protocol.specs.{Merge.IsMerge, Texts.request_text, declared.actor.Actor.Actor, declared.event.Event.Event}
use Rattle.mc_protocol.specs.{declared.fault.Fault.Fault, declared.reply.Reply.Reply}
use Rattle.mc_protocol.specs.declared.actor.Actor.TheVariants as actor
use Rattle.mc_protocol.specs.declared.reply.Reply.TheVariants as reply
use Rattle.mc_protocol.specs.declared.event.Event.TheVariants as event
use Rattle.mc_script.specs.declared.step.Template.{Template}
use Rattle.mc_code.specs.Standing.{StandsAt, IsRightAlong}
use Rattle.mc_code.specs.{Calls.template_of, Code.Code, Code.section_of, States.Tagged, States.State, declared.instr.Call.Call}
use Rattle.mc_sound.specs.Flags.{IsAdmitted, all_clear}
use Rattle.mc_core.specs.Logs.{new_log, calls_in, answered_in, events_in, request_of, IsRightLog}
use Rattle.mc_core.specs.Worlds.{World, Noted, log_of, events_of, exchanges_of, BeginsIn, IsBegun}

-- ---- numbers of 64 bits

abbrev pub IsSmallNumber : Option ℕ → Type 0
IsSmallNumber None = Unit {0}
IsSmallNumber (Some number) = number < 2 ^ 64

-- the number that a reply shows has at most 64 bits
abbrev pub IsSmallReply : Reply → Type 0
IsSmallReply (reply.Hit flags body cas) = IsSmallNumber cas
IsSmallReply (reply.Number number) = number < 2 ^ 64
IsSmallReply _ = Unit {0}

abbrev pub IsSmallEvent : Event → Type 0
IsSmallEvent event.Begin = Unit {0}
IsSmallEvent (event.Reply reply) = IsSmallReply reply
IsSmallEvent (event.Fail fault) = Unit {0}

abbrev pub IsSmallNote : Noted → Type 0
IsSmallNote (who, e) = IsSmallEvent e

-- the numbers of all replies have at most 64 bits
abbrev pub AreSmall : List Noted → Type 0
AreSmall notes = All IsSmallNote notes

-- ---- runs without a wrong

-- begun with the variables that it has in this world, the section makes the calls of its log, one after the other, and the next of
-- them waits; on the way it comes to nothing wrong: no number is missing or of another kind, and there is an instruction
pub record IsRightRun (c : Code) (w : World) (who : Actor) (variables : List Tagged) : Type 0 where
  pub begins : BeginsIn c w who variables
  pub makes : IsRightLog c who variables (log_of w who)
  pub place : ℕ
  pub st : State
  pub stands : StandsAt c who variables (exchanges_of c w who) place st
  pub right : IsRightAlong c who variables (exchanges_of c w who)

-- the section hasn't begun, and nothing happened in it; or its log is that of such a run
abbrev pub RanRight : Code → World → Actor → Type 0
RanRight c w who = ((IsBegun c w who → ⊥) × (log_of w who ≡ new_log)) ⊎ ((variables : List Tagged) × IsRightRun c w who variables)

-- ---- flags

-- the templates of the calls that the section began
abbrev pub sent_by : Code → World → Actor → List Template
sent_by c w who = map (template_of c) (calls_in (log_of w who))

-- the same without a call that has no reply
abbrev pub answered_by : Code → World → Actor → List Template
answered_by c w who = map (template_of c) (answered_in (log_of w who))

-- these are the templates of the calls that the section began, with the last one or without it where it has no reply
abbrev pub AreSentBy : Code → World → Actor → List Template → Type 0
AreSentBy c w who calls = (calls ≡ sent_by c w who) ⊎ (calls ≡ answered_by c w who)

-- in every merge each call finds the flags as it needs them
abbrev pub AreAdmitted : Code → World → Type 0
AreAdmitted c w = (of_p of_a of_b merged : List Template)
    → AreSentBy c w actor.P of_p → AreSentBy c w actor.A of_a → AreSentBy c w actor.B of_b → IsMerge of_a of_b merged
    → IsAdmitted all_clear (of_p ++ merged)

-- ---- budgets

-- how many bytes the texts of these calls have
abbrev pub bytes_of_all : Code → List Call → ℕ
bytes_of_all c [] = 0
bytes_of_all c (made ∷ calls) = length (request_text (request_of c made)) + bytes_of_all c calls

-- what the section began is within its budget
pub record IsWithinBudget (c : Code) (w : World) (who : Actor) : Type 0 where
  pub requests : length (calls_in (log_of w who)) ≤ (section_of c who).budget.requests
  pub bytes : bytes_of_all c (calls_in (log_of w who)) ≤ (section_of c who).budget.bytes

-- ---- failed sections

-- nothing of the section is noted after its fault: no call begins then
abbrev pub IsSilentAfterFault : World → Actor → Type 0
IsSilentAfterFault w who = (front back : List Noted) (fault : Fault)
    → w.notes ≡ front ++ (who, event.Fail fault) ∷ back → events_of who back ≡ []

-- ---- all of it

pub record IsSafe (c : Code) (w : World) : Type 0 where
  -- a section's notes are the events of its log
  pub noted : (who : Actor) → events_of who w.notes ≡ events_in (log_of w who)
  pub runs : (who : Actor) → RanRight c w who
  pub admitted : AreAdmitted c w
  pub budgets : (who : Actor) → IsWithinBudget c w who
  pub silent : (who : Actor) → IsSilentAfterFault w who
