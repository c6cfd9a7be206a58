-- What a lane shows, and what a call on it does.
use Rattle.std.specs.Prelude.{◌≡◌, ℕ, ◌≤◌, Bool, Option, Some, None, is_none, MatchOption, IfSome, Result, Ok, Err, List, ◌++◌, length}
use Rattle.std.specs.Result.{result_err}
use Rattle.mc_protocol.specs.{Lines.Word, declared.fault.Fault.Fault, declared.reply.Reply.Reply, declared.request.Verb.Verb}
use Rattle.mc_protocol.specs.declared.fault.Fault.TheVariants as fault
use Rattle.mc_lane.specs.Sending.{IsPrefix, IsProperPrefix, counts_of, EndsLast}
use Rattle.mc_lane.specs.{Receiving.IsReplyAt, Receiving.Stops, Streams.StreamState, Streams.CanFail, Streams.Carries}

-- What the lane sent and what it received; how many of the received bytes were the replies that it answered, and how many it
-- may receive; the fault that closed it; and what its stream tells, until that is dropped.
pub record LaneRecord : Type 0 where
  pub sent : List ℕ
  pub got : List ℕ
  pub taken : ℕ
  pub limit : ℕ
  pub fault : Option Fault
  pub stream : Option StreamState

-- ---- open and closed

abbrev pub stream_unless : Option Fault → Option StreamState → Option StreamState
stream_unless None stream = stream
stream_unless (Some f) stream = None

-- the stream of a lane that is open: no fault has closed it, and it has its stream
abbrev pub open_stream : LaneRecord → Option StreamState
open_stream lane = stream_unless lane.fault lane.stream

abbrev pub is_closed : LaneRecord → Bool
is_closed lane = is_none (open_stream lane)

-- what holds of each lane
pub record IsLane (lane : LaneRecord) : Type 0 where
  pub taken : lane.taken ≤ length lane.got
  pub within : length lane.got ≤ lane.limit
  pub can_fail : IfSome (open_stream lane) CanFail

-- ---- calls

-- what holds where a fault closes the lane, after this was written of the request
abbrev pub Closes : Verb → Word → List ℕ → List ℕ → LaneRecord → Fault → Type 0
Closes verb key request written new fault.WriteFailed = IsProperPrefix written request
Closes verb key request written new fault.Memory = IsPrefix written request
Closes verb key request written new f = (written ≡ request) × Stops verb key new.got new.taken new.limit f

-- a reply was answered: the whole request was written, and the reply was taken from what was received; or a fault closed the
-- lane, and nothing was taken
abbrev pub ComesTo : Verb → Word → List ℕ → List ℕ → LaneRecord → LaneRecord → Result Reply Fault → Type 0
ComesTo verb key request written old new (Ok reply) = (written ≡ request) × IsReplyAt verb key new.got old.taken new.taken reply
ComesTo verb key request written old new (Err f) = (new.taken ≡ old.taken) × Closes verb key request written new f

-- A call on an open lane, with this request of this verb and key: what was written and what was received in it is recorded, and
-- is what the stream tells. Where a read found the end, it was the last one.
pub record Exchanges (verb : Verb) (key : Word) (request : List ℕ) (old new : LaneRecord) (before : StreamState)
    (result : Result Reply Fault) : Type 0 where
  pub after : StreamState
  pub written : List ℕ
  pub received : List ℕ
  pub stream : new.stream ≡ Some after
  pub carries : Carries before after received written (counts_of result)
  pub last : EndsLast result after
  pub sent : new.sent ≡ old.sent ++ written
  pub got : new.got ≡ old.got ++ received
  pub limit : new.limit ≡ old.limit
  pub within : length new.got ≤ new.limit
  pub fault : new.fault ≡ result_err result
  pub outcome : ComesTo verb key request written old new result

-- the call on a lane that is closed: it writes and reads nothing, and answers so
pub record IsRefused (old new : LaneRecord) (result : Result Reply Fault) : Type 0 where
  pub closed : result ≡ Err fault.Closed
  pub same : new ≡ old

-- a call on a lane
abbrev pub Calls : Verb → Word → List ℕ → LaneRecord → LaneRecord → Result Reply Fault → Type 0
Calls verb key request old new result =
    MatchOption (open_stream old) (IsRefused old new result) (λ before. Exchanges verb key request old new before result)
