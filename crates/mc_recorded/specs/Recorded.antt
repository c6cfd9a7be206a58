-- What a lane recorded of the requests of a section, of the replies to them, and of the fault that ended it.
use Rattle.std.specs.Prelude.{◌≡◌, ◌⊎◌, ℕ, Option, Some, None, is_some, is_none, List, [], ◌∷◌, ◌++◌, flat_map}
use Rattle.std.specs.List.{filter, find}
use Rattle.mc_protocol.specs.{Texts.request_text, declared.fault.Fault.Fault, declared.reply.Reply.Reply, declared.request.Request.Request}
use Rattle.mc_protocol.specs.declared.fault.Fault.TheVariants as fault
use Rattle.mc_model.specs.declared.sent.Sent.{Sent}
use Rattle.mc_lane.specs.{Lanes.LaneRecord, Receiving.IsMalformed, Sending.IsPrefix}
use Rattle.mc_reader.specs.{Replies.Spells, Replies.HasFailed, declared.fault.ErrorKind.ErrorKind, declared.fault.ReadFault.ReadFault}
use Rattle.mc_reader.specs.declared.fault.ReadFault.TheVariants as read_fault

-- ---- requests and their replies

-- those that have a reply
abbrev pub answered_of : List Sent → List Sent
answered_of requests = filter (λ s. is_some s.reply) requests

-- the one that waits for its reply
abbrev pub waiting_of : List Sent → Option Sent
waiting_of requests = find (λ s. is_none s.reply) requests

-- ---- what was sent

-- the texts of these requests, one after the other
abbrev pub joined_text : List Sent → List ℕ
joined_text requests = flat_map (λ s. request_text s.request) requests

-- All requests were sent. Where the section failed, the rest of the last one may be missing, or all of it; but each that has a
-- reply was sent whole.
abbrev pub WereSent : List Sent → Option Fault → List ℕ → Type 0
WereSent requests None sent = sent ≡ joined_text requests
WereSent requests (Some f) sent = IsPrefix sent (joined_text requests) × IsPrefix (joined_text (answered_of requests)) sent

-- ---- what was received

-- the reply to the request stands at the front of what was received, and then comes the rest; no reply takes nothing
abbrev pub StandsAtFront : Request → Option Reply → List ℕ → List ℕ → Type 0
StandsAtFront request None got rest = got ≡ rest
StandsAtFront request (Some reply) got rest =
    (text : List ℕ) × (got ≡ text ++ rest) × Spells request.verb request.key text reply

-- the replies to these requests stand there, one after the other
abbrev pub StandAtFront : List Sent → List ℕ → List ℕ → Type 0
StandAtFront [] got rest = got ≡ rest
StandAtFront (s ∷ requests) got rest =
    (back : List ℕ) × StandsAtFront s.request s.reply got back × StandAtFront requests back rest

-- ---- faults

-- a front of the bytes fails as the reply to the request that waits
abbrev pub FailsForWaiting : List Sent → List ℕ → ReadFault → Type 0
FailsForWaiting requests bytes f =
    (s : Sent) × (waiting_of requests ≡ Some s) × HasFailed s.request.verb s.request.key bytes f

-- where bytes show the fault, these do: they are malformed, or report an error
abbrev pub IsShownBy : List Sent → List ℕ → Fault → Type 0
IsShownBy requests bytes fault.BadReply = (f : ReadFault) × IsMalformed f × FailsForWaiting requests bytes f
IsShownBy requests bytes fault.ErrorLine = (kind : ErrorKind) × FailsForWaiting requests bytes (read_fault.ErrorLine kind)
IsShownBy requests bytes f = Unit {0}

-- The fault of the lane ended the section, and the bytes after the replies show it. Where the lane has no fault, none ended the
-- section, or want of memory did.
abbrev pub FaultsAgree : List Sent → Option Fault → List ℕ → Option Fault → Type 0
FaultsAgree requests ended rest None = (ended ≡ None) ⊎ (ended ≡ Some fault.Memory)
FaultsAgree requests ended rest (Some f) = (ended ≡ Some f) × IsShownBy requests rest f

-- ---- all of it

-- These requests with their replies, and this fault if one ended the section, are what the lane recorded. Bytes may be left
-- that no request looked at.
pub record IsRecordedBy (requests : List Sent) (ended : Option Fault) (lane : LaneRecord) : Type 0 where
  pub sent : WereSent requests ended lane.sent
  pub rest : List ℕ
  pub received : StandAtFront requests lane.got rest
  pub faults : FaultsAgree requests ended rest lane.fault
