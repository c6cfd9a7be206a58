use Rattle.std.proofs.Common.{◌≡◌, ℕ, true, Result, List, Option, Some, None}
use Rattle.std.specs.Prelude.{is_none, MatchOption}
use Rattle.mc_protocol.specs.{Lines.Word, declared.fault.Fault.Fault, declared.reply.Reply.Reply, declared.request.Verb.Verb}
use Rattle.mc_lane.specs.{Lanes.LaneRecord, Lanes.Exchanges, Lanes.IsRefused, Lanes.open_stream, Streams.StreamState}
use Rattle.mc_stress.proofs.laws.closed_lanes_send_nothing.Goals as goal

by_stream : (verb : Verb) (key : Word) (request : List ℕ) (old new : LaneRecord) (result : Result Reply Fault) (stream : Option StreamState)
    → MatchOption stream (IsRefused old new result) (λ before. Exchanges verb key request old new before result)
    → is_none stream ≡ true → new ≡ old
by_stream verb key request old new result None refused closed = refused.same
by_stream verb key request old new result (Some before) exchanges closed = absurd (cc)

pub returns : goal.returns
returns c = λ verb key request old new result calls closed. by_stream verb key request old new result (open_stream old) calls closed
