-- What went over a lane, as its record shows it.
use Rattle.std.specs.Prelude.{Option}
use Rattle.mc_protocol.specs.declared.fault.Fault.{Fault}
use Rattle.mc_lane.specs.{Lanes.LaneRecord, Streams.StreamState, declared.traffic.Traffic.Traffic}

-- a lane with this traffic
abbrev pub lane_with : Traffic → Option Fault → Option StreamState → LaneRecord
lane_with t f stream = record { sent = t.sent.items; got = t.got.items; taken = t.taken; limit = t.limit; fault = f; stream = stream }
