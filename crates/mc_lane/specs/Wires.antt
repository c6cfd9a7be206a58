-- What contracts see of a wire.
use Rattle.mc_lane.specs.{Streams.StreamState, Streams.silent, declared.wire.Wire.Wire}

-- what it reads and writes over
abbrev pub wire_inner : {T : Type 0} → Wire T → T
wire_inner wire = wire.inner

-- as a stream it tells no bytes
abbrev pub wire_state : {T : Type 0} → Wire T → StreamState
wire_state wire = silent wire.counts wire.at_end
