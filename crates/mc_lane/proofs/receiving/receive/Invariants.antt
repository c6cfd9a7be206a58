use Rattle.std.specs.Prelude.{◌≡◌, ◌-◌, ◌≤◌, Some, [], ◌++◌, length, drop, slice_range, vec_len}
use Rattle.mc_lane.specs.Streams.{no_counts, Carries}
use Rattle.mc_lane.proofs.receiving.receive.Given as goal

-- what the reader was fed, and what was received since the call began
abbrev pub invariant-pieces : goal.invariant-pieces
invariant-pieces g l =
    let before = length l.fn.got.items in
    record {
      forward : l.taken ≤ l.fed;
      to : l.fed ≤ vec_len l.got;
      verb : l.reader.verb ≡ l.shape.verb;
      key : l.reader.key ≡ l.shape.key.now;
      read : l.reader.fed ≡ Some (slice_range l.got.items l.taken l.fed);
      grown : l.got.items ≡ l.fn.got.items ++ drop before l.got.items;
      within : vec_len l.got ≤ l.limit;
      carries : Carries (g.S.Stream.state l.fn.stream) (g.S.Stream.state l.stream) (drop before l.got.items) [] no_counts;
    }

abbrev pub decreases-pieces : goal.decreases-pieces
decreases-pieces g l = l.limit - vec_len l.got
