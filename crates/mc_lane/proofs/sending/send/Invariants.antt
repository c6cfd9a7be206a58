use Rattle.std.specs.Prelude.{◌≡◌, ◌+◌, ◌-◌, ◌≤◌, [], ◌++◌, length, take, vec_len}
use Rattle.std.specs.Vec.{vec_capacity}
use Rattle.mc_lane.specs.Streams.{no_counts, Carries}
use Rattle.mc_lane.proofs.sending.send.Given as goal

-- what was written so far is recorded, and there is room for the rest
abbrev pub invariant-loop-written : goal.invariant-loop-written
invariant-loop-written g l = record {
  within : l.written ≤ length l.request;
  recorded : l.sent.items ≡ l.fn.sent.items ++ take l.written l.request;
  carries : Carries (g.S.Stream.state l.fn.stream) (g.S.Stream.state l.stream) [] (take l.written l.request) no_counts;
  room : vec_len l.sent + (length l.request - l.written) ≤ vec_capacity l.sent;
}

abbrev pub decreases-loop-written : goal.decreases-loop-written
decreases-loop-written g l = length l.request - l.written
