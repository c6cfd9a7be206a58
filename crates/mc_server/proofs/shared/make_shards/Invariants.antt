use Rattle.std.proofs.Common.{◌≡◌, vec_len}
use Rattle.mc_server.proofs.shared.make_shards.Given as goal

abbrev pub invariant-loop-i : goal.invariant-loop-i
invariant-loop-i l = vec_len l.shards ≡ l.i
