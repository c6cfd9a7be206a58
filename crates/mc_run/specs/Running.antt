-- What running threads ask for, and what comes of a call.
use Rattle.std.specs.Prelude.{◌≡◌, ℕ, false, Result, Ok, Err, List, []}
use Rattle.mc_protocol.specs.{Lines.Word, Texts.request_text, declared.event.Event.Event, declared.fault.Fault.Fault}
use Rattle.mc_protocol.specs.{declared.reply.Reply.Reply, declared.request.Request.Request, declared.request.Verb.Verb}
use Rattle.mc_protocol.specs.declared.event.Event.TheVariants as event
use Rattle.mc_lane.specs.Lanes.{LaneRecord, is_closed, Calls}
use Rattle.mc_run.specs.Agreement.{LaneRecords}

-- nothing was sent or received over the lane, and it is open
pub record IsNew (lane : LaneRecord) : Type 0 where
  pub sent : lane.sent ≡ []
  pub got : lane.got ≡ []
  pub is_open : is_closed lane ≡ false

pub record AreNew (lanes : LaneRecords) : Type 0 where
  pub p : IsNew lanes.p
  pub a : IsNew lanes.a
  pub b : IsNew lanes.b

-- some call on a lane
abbrev pub IsCall : LaneRecord → LaneRecord → Type 0
IsCall old new = (verb : Verb) × (key : Word) × (request : List ℕ) × (result : Result Reply Fault) × Calls verb key request old new result

-- the lane grew by calls, one after another
pub data Grew : LaneRecord → LaneRecord → Type 0 where
  none : {lane : LaneRecord} → Grew lane lane
  call : {old new : LaneRecord} (last : LaneRecord) → Grew old last → IsCall last new → Grew old new

-- the lane of each section did
pub record AllGrew (old new : LaneRecords) : Type 0 where
  pub p : Grew old.p new.p
  pub a : Grew old.a new.a
  pub b : Grew old.b new.b

-- the event of a section whose lane comes to this
abbrev pub event_for : Result Reply Fault → Event
event_for (Ok reply) = event.Reply reply
event_for (Err f) = event.Fail f

-- what the lane of this request comes to is the event
abbrev pub ComesOver : Request → LaneRecord → LaneRecord → Event → Type 0
ComesOver request old new e =
    (result : Result Reply Fault) × (e ≡ event_for result) × Calls request.verb request.key (request_text request) old new result
