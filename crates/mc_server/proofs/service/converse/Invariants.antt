use Rattle.std.proofs.Common.{◌≡◌, ◌-◌, ◌<◌, ◌≤◌, [], vec_len}
use Rattle.mc_lane.specs.Streams.{CanFail}
use Rattle.mc_server.specs.{Conversing.IsServedSoFar, declared.limits.TheConstants.RECEIVED_LIMIT}
use Rattle.mc_server.proofs.service.converse.Given as goal

-- what was read and served so far
abbrev pub invariant-pieces : goal.invariant-pieces
invariant-pieces g l = record {
  some : 0 < vec_len l.piece;
  within : l.received ≤ RECEIVED_LIMIT;
  can_fail : CanFail (g.S.Stream.state l.stream);
  held : l.conversation.held.items ≡ [];
  few : l.conversation.requests ≤ l.received;
  so_far : IsServedSoFar (g.S.Stream.state l.fn.stream) (g.S.Stream.state l.stream) l.conversation.reader l.received l.conversation.requests;
}

abbrev pub decreases-pieces : goal.decreases-pieces
decreases-pieces g l = RECEIVED_LIMIT - l.received
