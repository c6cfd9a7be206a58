-- Laws of calls on lanes.
use Rattle.std.specs.Prelude.{◌≡◌, ℕ, true, Result, List}
use Rattle.mc_protocol.specs.{Lines.Word, declared.fault.Fault.Fault, declared.reply.Reply.Reply, declared.request.Verb.Verb}
use Rattle.mc_lane.specs.Lanes.{LaneRecord, Calls, is_closed}

-- a call on a closed lane changes nothing that it records
abbrev pub ClosedLanesSendNothing : Type 0
ClosedLanesSendNothing =
    (verb : Verb) (key : Word) (request : List ℕ) (old new : LaneRecord) (result : Result Reply Fault)
    → Calls verb key request old new result → is_closed old ≡ true → new ≡ old
