use Rattle.std.proofs.Common.{◌∙◌, ◌∷◌, [], ap, arith}
use Rattle.mc_lane.specs.MemoryStreams.{Memory, state_of}
use Rattle.test_lane.proofs.Counted.{can_fail, none_counted, write_counted}
use Rattle.test_lane.proofs.stream_tests.is_taken.Goals as goal

pub write-requires-4 : goal.write-requires-4
write-requires-4 c =
    let none = none_counted c.with_longest_write-stream.result
    (ap (λ (m : Memory). m.counts) c.with_longest_write-stream.ensures ∙ ap (λ (m : Memory). m.counts) c.in_ok-new.ensures) in
    let after_1 = write_counted 0 (state_of c.with_longest_write-stream.result) (state_of c.write.new.self) (97 ∷ 98 ∷ 99 ∷ 100 ∷ []) c.write.result
    c.write.ensures.writes none in
    let after_2 = write_counted 1 (state_of c.write.new.self) (state_of c.write-2.new.self) [] c.write-2.result c.write-2.ensures.writes after_1 in
    let after_3 = write_counted 2 (state_of c.write-2.new.self) (state_of c.write-3.new.self) (100 ∷ 101 ∷ 102 ∷ 103 ∷ []) c.write-3.result
    c.write-3.ensures.writes after_2 in
    can_fail 3 (state_of c.write-3.new.self) (omega arith) after_3
