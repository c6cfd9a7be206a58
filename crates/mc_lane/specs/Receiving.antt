-- What a lane receives of a reply.
use Rattle.std.specs.Prelude.{◌≡◌, ℕ, ◌<◌, ◌≤◌, true, Result, Ok, Err, List, [], ◌++◌, length, drop, slice_range}
use Rattle.mc_protocol.specs.declared.request.Verb.{Verb}
use Rattle.mc_protocol.specs.{Legal.is_fit_for, Lines.Word, declared.fault.Fault.Fault, declared.reply.Reply.Reply}
use Rattle.mc_protocol.specs.declared.fault.Fault.TheVariants as fault
use Rattle.mc_reader.specs.Replies.{Spells, IsUnfinished, HasFailed}
use Rattle.mc_reader.specs.{declared.fault.ErrorKind.ErrorKind, declared.fault.ReadFault.ReadFault}
use Rattle.mc_reader.specs.declared.fault.ReadFault.TheVariants as read_fault
use Rattle.mc_lane.specs.{Sending.counts_of, Sending.EndsLast, Streams.StreamState, Streams.Carries}

-- ---- one read

-- what a read brought to a lane that had received `old` and may receive `limit` bytes, or why it brought nothing
abbrev pub Brings : ℕ → List ℕ → List ℕ → Result (Unit {0}) Fault → Type 0
Brings limit old brought (Ok done) = 0 < length brought
Brings limit old brought (Err fault.ReadFailed) = brought ≡ []
Brings limit old brought (Err fault.Ended) = brought ≡ []
Brings limit old brought (Err fault.Memory) = brought ≡ []
Brings limit old brought (Err fault.TooMuch) = (brought ≡ []) × (length old ≡ limit)
Brings limit old brought (Err f) = ⊥

-- a read added what it brought
pub record Adds (limit : ℕ) (old new : List ℕ) (before after : StreamState) (result : Result (Unit {0}) Fault) : Type 0 where
  pub brought : List ℕ
  pub recorded : new ≡ old ++ brought
  pub within : length new ≤ limit
  pub carries : Carries before after brought [] (counts_of result)
  pub last : EndsLast result after
  pub outcome : Brings limit old brought result

-- ---- a reply

-- the reply to a request of this verb and key stands from one place to the other, and the request may have it
pub record IsReplyAt (verb : Verb) (key : Word) (got : List ℕ) (start end : ℕ) (reply : Reply) : Type 0 where
  pub forward : start ≤ end
  pub within : end ≤ length got
  pub spelled : Spells verb key (slice_range got start end) reply
  pub fits : is_fit_for verb reply ≡ true

-- the fault of a reply that is malformed; none of these is an error that the server reports
abbrev pub IsMalformed : ReadFault → Type 0
IsMalformed (read_fault.ErrorLine kind) = ⊥
IsMalformed read_fault.OutOfMemory = ⊥
IsMalformed read_fault.Failed = ⊥
IsMalformed f = Unit {0}

-- Why no reply is answered where `got` was received, its first `taken` bytes were earlier replies, and `limit` bytes may be
-- received: the next reply isn't whole, or it is malformed or reports an error, or there is no memory.
abbrev pub Stops : Verb → Word → List ℕ → ℕ → ℕ → Fault → Type 0
Stops verb key got taken limit fault.ReadFailed = IsUnfinished verb key (drop taken got)
Stops verb key got taken limit fault.Ended = IsUnfinished verb key (drop taken got)
Stops verb key got taken limit fault.TooMuch = IsUnfinished verb key (drop taken got) × (length got ≡ limit)
Stops verb key got taken limit fault.BadReply = (f : ReadFault) × IsMalformed f × HasFailed verb key (drop taken got) f
Stops verb key got taken limit fault.ErrorLine = (kind : ErrorKind) × HasFailed verb key (drop taken got) (read_fault.ErrorLine kind)
Stops verb key got taken limit fault.Memory = Unit {0}
Stops verb key got taken limit f = ⊥

-- a reply after the first `taken` bytes, with the place where it ends, or why there is none
abbrev pub Finds : Verb → Word → List ℕ → ℕ → ℕ → Result (Reply × ℕ) Fault → Type 0
Finds verb key got taken limit (Ok (reply, end)) = IsReplyAt verb key got taken end reply
Finds verb key got taken limit (Err f) = Stops verb key got taken limit f

-- what was read for a reply was added
pub record Receives (verb : Verb) (key : Word) (taken limit : ℕ) (old new : List ℕ) (before after : StreamState)
    (result : Result (Reply × ℕ) Fault) : Type 0 where
  pub received : List ℕ
  pub recorded : new ≡ old ++ received
  pub within : length new ≤ limit
  pub carries : Carries before after received [] (counts_of result)
  pub last : EndsLast result after
  pub outcome : Finds verb key new taken limit result

-- the fault of a lane where the bytes that it received are no reply
abbrev pub fault_for : ReadFault → Fault
fault_for (read_fault.ErrorLine kind) = fault.ErrorLine
fault_for read_fault.OutOfMemory = fault.Memory
fault_for f = fault.BadReply
