use Rattle.std.proofs.Common.{List, ℕ}
use Rattle.mc_lane.specs.Streams.{no_counts, CanFail}
use Rattle.mc_server.specs.{Answers.MayShowAll, Puts.IsPut}
use Rattle.mc_server.proofs.answer.show_all.Given as goal

-- what was shown so far
abbrev pub invariant-keys : goal.invariant-keys
invariant-keys g l = record {
  can_fail : CanFail (g.S.Stream.state l.stream);
  put : (text : List ℕ) × MayShowAll l.with_cas l.yielded text
      × IsPut text l.fn.held.items l.held.items (g.S.Stream.state l.fn.stream) (g.S.Stream.state l.stream) no_counts;
}
