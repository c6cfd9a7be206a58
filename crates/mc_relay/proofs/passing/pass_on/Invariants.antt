use Rattle.std.proofs.Common.{◌<◌, vec_len}
use Rattle.mc_lane.specs.Streams.{CanFail}
use Rattle.mc_relay.specs.Passing.{HasPassed}
use Rattle.mc_relay.proofs.passing.pass_on.Given as goal

-- what was read so far was heard and handed on, and no call failed
abbrev pub invariant-loop : goal.invariant-loop
invariant-loop g l =
    (goal.iterator-loop g).can_next l.iterator' × (goal.iterator-loop g).is_finite l.iterator' × (0 < vec_len l.room)
    × CanFail (g.F.Stream.state l.from) × CanFail (g.T.Stream.state l.to)
    × HasPassed (g.F.Stream.state l.fn.from) (g.F.Stream.state l.from) (g.T.Stream.state l.fn.to) (g.T.Stream.state l.to)
    (g.E.Ear.heard l.fn.ear) (g.E.Ear.heard l.ear)
