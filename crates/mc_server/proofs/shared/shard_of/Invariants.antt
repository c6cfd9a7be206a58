use Rattle.std.proofs.Common.{◌≡◌, ◌%◌, take, sum}
use Rattle.mc_server.proofs.shared.shard_of.Given as goal

abbrev pub invariant-loop-byte : goal.invariant-loop-byte
invariant-loop-byte l = l.sum ≡ sum (take l.byte-index l.key) % 256
