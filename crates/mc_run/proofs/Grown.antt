-- Lanes that grow by calls.
use Rattle.mc_protocol.specs.{Texts.request_text, declared.event.Event.Event, declared.request.Request.Request}
use Rattle.mc_lane.specs.Lanes.{LaneRecord}
use Rattle.mc_run.specs.Running.{Grew, none, call, ComesOver}

-- what grows twice grows
pub grew_twice : {old between new : LaneRecord} → Grew old between → Grew between new → Grew old new
grew_twice first none = first
grew_twice first (call last before calls) = call last (grew_twice first before) calls

-- by the call that an event tells of
pub grew_by : (old new : LaneRecord) (request : Request) (e : Event) → ComesOver request old new e → Grew old new
grew_by old new request e comes = call old none (request.verb, request.key, request_text request, comes.0, comes.2)
