use Rattle.std.proofs.Common.{◌≤◌, length}
use Rattle.test_streams.proofs.asks.asks_in_pieces.Given as goal

abbrev pub invariant-pieces : goal.invariant-pieces
invariant-pieces l = length l.rest ≤ length l.fn.stream

abbrev pub decreases-pieces : goal.decreases-pieces
decreases-pieces l = length l.rest
