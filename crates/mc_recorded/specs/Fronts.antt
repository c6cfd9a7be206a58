-- What stands at the front of received bytes. No public contract cites these.
use Rattle.std.specs.Prelude.{◌≡◌, ℕ, ◌≤◌, Bool, true, false, Option, Some, None, List, length, take, drop}
use Rattle.mc_protocol.specs.declared.request.Request.{Request}
use Rattle.mc_protocol.specs.{Lines.Word, declared.fault.Fault.Fault, declared.reply.Reply.Reply, declared.request.Verb.Verb}
use Rattle.mc_protocol.specs.declared.fault.Fault.TheVariants as fault
use Rattle.mc_model.specs.declared.sent.Sent.{Sent}
use Rattle.mc_lane.specs.Receiving.{IsMalformed}
use Rattle.mc_reader.specs.Replies.{Spells, IsUnfinished, HasFailed}
use Rattle.mc_reader.specs.{declared.fault.ErrorKind.ErrorKind, declared.fault.ReadFault.ReadFault}
use Rattle.mc_reader.specs.declared.fault.ReadFault.TheVariants as read_fault
use Rattle.mc_recorded.specs.{declared.front.Front.Front, Recorded.waiting_of, Recorded.StandsAtFront, Recorded.StandAtFront}
use Rattle.mc_recorded.specs.declared.front.Front.TheVariants as front

-- what the bytes begin with, where the reply to a request of this verb and key is due
abbrev pub BeginsWith : Verb → Word → List ℕ → Front → Type 0
BeginsWith verb key bytes (front.Whole reply used) = (used ≤ length bytes) × Spells verb key (take used bytes) reply
BeginsWith verb key bytes front.Malformed = (f : ReadFault) × IsMalformed f × HasFailed verb key bytes f
BeginsWith verb key bytes front.ErrorLine = (kind : ErrorKind) × HasFailed verb key bytes (read_fault.ErrorLine kind)
BeginsWith verb key bytes front.Unfinished = IsUnfinished verb key bytes

-- the same, where the reply to the request that waits is due, if one waits
abbrev pub BeginsForWaiting : List Sent → List ℕ → Option Front → Type 0
BeginsForWaiting requests bytes None = waiting_of requests ≡ None
BeginsForWaiting requests bytes (Some f) =
    (s : Sent) × (waiting_of requests ≡ Some s) × BeginsWith s.request.verb s.request.key bytes f

-- what the bytes begin with shows the fault, if it is one that bytes show
abbrev pub shows : Fault → Option Front → Bool
shows fault.BadReply (Some front.Malformed) = true
shows fault.BadReply f = false
shows fault.ErrorLine (Some front.ErrorLine) = true
shows fault.ErrorLine f = false
shows other f = true

-- how many bytes the reply takes that stands at the front, or none where it doesn't stand there
abbrev pub CountsReply : Request → Option Reply → List ℕ → Option ℕ → Type 0
CountsReply request reply got None = (rest : List ℕ) → StandsAtFront request reply got rest → ⊥
CountsReply request reply got (Some count) = (count ≤ length got) × StandsAtFront request reply got (drop count got)

-- the same of the replies to all these requests
abbrev pub CountsReplies : List Sent → List ℕ → Option ℕ → Type 0
CountsReplies requests got None = (rest : List ℕ) → StandAtFront requests got rest → ⊥
CountsReplies requests got (Some count) = (count ≤ length got) × StandAtFront requests got (drop count got)
