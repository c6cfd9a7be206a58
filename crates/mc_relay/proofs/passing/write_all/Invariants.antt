use Rattle.std.proofs.Common.{◌-◌, ◌≤◌, [], length, take}
use Rattle.mc_lane.specs.Streams.{no_counts, Carries}
use Rattle.mc_relay.proofs.passing.write_all.Given as goal

-- what was written so far
abbrev pub invariant-loop-written : goal.invariant-loop-written
invariant-loop-written g l = record {
  within : l.written ≤ length l.bytes;
  carries : Carries (g.S.Stream.state l.fn.stream) (g.S.Stream.state l.stream) [] (take l.written l.bytes) no_counts;
}

abbrev pub decreases-loop-written : goal.decreases-loop-written
decreases-loop-written g l = length l.bytes - l.written
