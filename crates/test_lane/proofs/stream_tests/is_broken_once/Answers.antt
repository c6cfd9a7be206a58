use Rattle.std.proofs.Common.{◌∙◌, ◌∷◌, [], ap, arith}
use Rattle.mc_lane.specs.MemoryStreams.{Memory, state_of}
use Rattle.test_lane.proofs.Counted.{can_fail, none_counted, read_counted, write_counted}
use Rattle.test_lane.proofs.stream_tests.is_broken_once.Goals as goal

pub read-requires-2 : goal.read-requires-2
read-requires-2 c =
    let none = none_counted c.with_failure_at-stream.result
    (ap (λ (m : Memory). m.counts) c.with_failure_at-stream.ensures ∙ ap (λ (m : Memory). m.counts) c.in_ok-new.ensures) in
    let after_1 = write_counted 0 (state_of c.with_failure_at-stream.result) (state_of c.write.new.self) (120 ∷ []) c.write.result
    c.write.ensures.writes none in
    let after_2 = read_counted 1 (state_of c.write.new.self) (state_of c.read.new.self) c.read.new.buffer c.read.result c.read.ensures.reads after_1 in
    let after_3 = write_counted 2 (state_of c.read.new.self) (state_of c.write-2.new.self) (121 ∷ []) c.write-2.result c.write-2.ensures.writes after_2 in
    can_fail 3 (state_of c.write-2.new.self) (omega arith) after_3
