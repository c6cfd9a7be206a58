-- Laws of calls on lanes.
use Rattle.std.specs.Prelude.{◌≡◌, Result, Ok, Err, List, ℕ, ◌++◌, drop}
use Rattle.mc_protocol.specs.{Lines.Word, declared.fault.Fault.Fault, declared.reply.Reply.Reply, declared.request.Verb.Verb}
use Rattle.mc_protocol.specs.declared.fault.Fault.TheVariants as fault
use Rattle.mc_reader.specs.Replies.{Spells}
use Rattle.mc_lane.specs.{Lanes.LaneRecord, Lanes.Exchanges, Streams.StreamState}

-- this reply is answered, unless the request was not written or there was no memory
abbrev pub IsAnswered : Reply → Result Reply Fault → Type 0
IsAnswered reply (Ok r) = r ≡ reply
IsAnswered reply (Err fault.WriteFailed) = Unit {0}
IsAnswered reply (Err fault.Memory) = Unit {0}
IsAnswered reply (Err f) = ⊥

-- where a whole reply was received after those that were taken before, a call answers it
abbrev pub WholeReplyIsAnswered : Type 0
WholeReplyIsAnswered = (verb : Verb) (key : Word) (request : List ℕ) (old new : LaneRecord) (before : StreamState)
    (result : Result Reply Fault) (text rest : List ℕ) (reply : Reply) → Exchanges verb key request old new before result
    → drop old.taken new.got ≡ text ++ rest → Spells verb key text reply → IsAnswered reply result
