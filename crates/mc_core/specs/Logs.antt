-- Logs: what one section of code sent and received, and what ended it before its code did.
use Rattle.std.specs.Prelude.{Option, Some, None, List, [], ◌∷◌, ◌++◌, map, flat_map, option_to_list, slice_index_or}
use Rattle.mc_protocol.specs.{declared.actor.Actor.Actor, declared.event.Event.Event, declared.fault.Fault.Fault}
use Rattle.mc_protocol.specs.{declared.reply.Reply.Reply, declared.request.Request.Request}
use Rattle.mc_protocol.specs.declared.event.Event.TheVariants as event
use Rattle.mc_code.specs.{Calls.IsCalling, Calls.MakesAll, Calls.exchange_of, Calls.template_of, declared.instr.Call.Call}
use Rattle.mc_code.specs.{Code.Code, Requests.request_with, Runs.Exchange, States.Tagged}

pub record Log : Type 0 where
  -- the calls that have replies, with them, in order
  pub answered : List (Call × Reply)
  -- the call that has none
  pub waiting : Option Call
  -- what ended the section before its code did
  pub fault : Option Fault

-- of a section in which nothing happened
abbrev pub new_log : Log
new_log = record { answered = []; waiting = None; fault = None }

-- ---- parts of a log

abbrev pub call_of : Call × Reply → Call
call_of (made, reply) = made

-- the calls that were made, the one that has no reply too
abbrev pub calls_in : Log → List Call
calls_in log = map call_of log.answered ++ option_to_list log.waiting

-- the same without the one that has no reply
abbrev pub answered_in : Log → List Call
answered_in log = map call_of log.answered

-- what was exchanged
abbrev pub exchanges_in : Code → Log → List Exchange
exchanges_in c log = map (exchange_of c) log.answered

abbrev pub events_of_pair : Call × Reply → List Event
events_of_pair (made, reply) = event.Begin ∷ event.Reply reply ∷ []

abbrev pub begin_of : Call → Event
begin_of made = event.Begin

-- the events of the section, in order
abbrev pub events_in : Log → List Event
events_in log =
    flat_map events_of_pair log.answered ++ (map begin_of (option_to_list log.waiting) ++ map event.Fail (option_to_list log.fault))

-- the request of a call
abbrev pub request_of : Code → Call → Request
request_of c made = request_with (template_of c made) (slice_index_or c.keys (template_of c made).key []) made.number

-- ---- longer logs

abbrev pub with_call : Log → Call → Log
with_call log made = record log { waiting = Some made }

abbrev pub with_reply : Log → Call → Reply → Log
with_reply log made reply = record log { answered = log.answered ++ (made, reply) ∷ []; waiting = None }

abbrev pub with_fault : Log → Fault → Log
with_fault log fault = record log { fault = Some fault }

-- ---- right logs

-- the call that waits, if any, is the one that the section is about to make after these exchanges
abbrev pub IsNextCall : Code → Actor → List Tagged → List Exchange → Option Call → Type 0
IsNextCall c actor variables exchanges None = Unit {0}
IsNextCall c actor variables exchanges (Some made) = IsCalling c actor variables exchanges made

-- begun with these variables, the section makes each of these calls, after its calls before, and each reply is one that its call
-- may have
pub record IsRightLog (c : Code) (actor : Actor) (variables : List Tagged) (log : Log) : Type 0 where
  pub makes : MakesAll c actor variables [] log.answered
  pub next : IsNextCall c actor variables (exchanges_in c log) log.waiting
