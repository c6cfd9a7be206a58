use Rattle.std.proofs.Common.{◌≡◌, ◌≢◌}
use Rattle.mc_server.proofs.listener.serve_all.Given as goal

-- it counts these connections, and there is one at least
abbrev pub invariant-loop : goal.invariant-loop
invariant-loop g l =
    (goal.iterator-loop g).can_next l.iterator' × (goal.iterator-loop g).is_finite l.iterator' × (l.counts.connections ≡ l.fn.connections)
    × (l.fn.connections ≢ 0)
