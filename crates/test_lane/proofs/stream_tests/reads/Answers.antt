use Rattle.std.proofs.Common.{ap, arith}
use Rattle.mc_lane.specs.MemoryStreams.{Memory, state_of}
use Rattle.test_lane.proofs.Counted.{can_fail, none_counted, read_counted}
use Rattle.test_lane.proofs.stream_tests.reads.Goals as goal

pub read-requires-4 : goal.read-requires-4
read-requires-4 c =
    let none = none_counted c.in_ok-stream.stream (ap (λ (m : Memory). m.counts) c.in_ok-stream.ensures) in
    let after_1 = read_counted 0 (state_of c.in_ok-stream.stream) (state_of c.read.new.self) c.read.new.buffer c.read.result c.read.ensures.reads none in
    let after_2 = read_counted 1 (state_of c.read.new.self) (state_of c.read-2.new.self) c.read-2.new.buffer c.read-2.result c.read-2.ensures.reads after_1 in
    let after_3 = read_counted 2 (state_of c.read-2.new.self) (state_of c.read-3.new.self) c.read-3.new.buffer c.read-3.result c.read-3.ensures.reads after_2 in
    can_fail 3 (state_of c.read-3.new.self) (omega arith) after_3
