-- The history of a world: its calls and their replies, in the order in which they were noted. A fault leaves no note in it.
use Rattle.std.specs.Prelude.{ℕ, ◌+◌, Some, None, List, [], ◌∷◌, ◌++◌, map, option_to_list, slice_index_or}
use Rattle.mc_protocol.specs.{declared.actor.Actor.Actor, declared.event.Event.Event, declared.reply.Reply.Reply}
use Rattle.mc_protocol.specs.declared.event.Event.TheVariants as event
use Rattle.mc_code.specs.{Code.Code, declared.instr.Call.Call}
use Rattle.mc_model.specs.Notes as recorded
use Rattle.mc_model.specs.{Sections.Sections, declared.sent.Sent.Sent}
use Rattle.mc_model.specs.declared.note.Note.TheVariants as note
use Rattle.mc_core.specs.{Logs.Log, Logs.calls_in, Logs.request_of, Worlds.World, Worlds.Noted, Worlds.log_of, Worlds.events_of}

-- how many calls these events begin
abbrev pub begin_count : List Event → ℕ
begin_count [] = 0
begin_count (event.Begin ∷ events) = begin_count events + 1
begin_count (event.Reply reply ∷ events) = begin_count events
begin_count (event.Fail fault ∷ events) = begin_count events

-- what a look-up gives where there is no such call
abbrev pub no_call : Call
no_call = record { template = 0; number = 0 }

-- the call of the section that begins after these notes
abbrev pub call_after : World → Actor → List Noted → Call
call_after w who front = slice_index_or (calls_in (log_of w who)) (begin_count (events_of who front)) no_call

-- what the history has of an event that is noted after these
abbrev pub recorded_after : Code → World → List Noted → Noted → List recorded.Noted
recorded_after c w front (who, event.Begin) = (who, note.Begin (request_of c (call_after w who front))) ∷ []
recorded_after c w front (who, event.Reply reply) = (who, note.Reply reply) ∷ []
recorded_after c w front (who, event.Fail fault) = []

-- what it has of all of these, noted after the ones in front
abbrev pub recorded_from : Code → World → List Noted → List Noted → List recorded.Noted
recorded_from c w front [] = []
recorded_from c w front (noted ∷ notes) = recorded_after c w front noted ++ recorded_from c w (front ++ noted ∷ []) notes

-- the notes of the world's history
abbrev pub record_of : Code → World → List recorded.Noted
record_of c w = recorded_from c w [] w.notes

abbrev pub history_of : Code → World → recorded.History
history_of c w = recorded.with_notes (record_of c w)

-- ---- the sections of the history

abbrev pub sent_of : Code → Call × Reply → Sent
sent_of c (made, reply) = record { request = request_of c made; reply = Some reply }

abbrev pub unanswered : Code → Call → Sent
unanswered c made = record { request = request_of c made; reply = None }

-- the requests of a log's calls, each with its reply
abbrev pub sent_in : Code → Log → List Sent
sent_in c log = map (sent_of c) log.answered ++ map (unanswered c) (option_to_list log.waiting)

-- those of each section, in order
abbrev pub sections_of : Code → World → Sections
sections_of c w = record { p = sent_in c w.logs.p; a = sent_in c w.logs.a; b = sent_in c w.logs.b }
