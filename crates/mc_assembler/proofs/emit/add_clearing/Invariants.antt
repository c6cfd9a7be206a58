use Rattle.std.proofs.Common.{◌≡◌, ◌++◌, drop}
use Rattle.mc_assembler.specs.Assembling.{clearing_code}
use Rattle.mc_assembler.proofs.emit.add_clearing.Given as goal

abbrev pub invariant-keys : goal.invariant-keys
invariant-keys l = l.out.items ++ clearing_code l.places.labels l.key (drop l.key l.keys) ≡ l.fn.out.items ++ clearing_code l.fn.places.labels 0 l.fn.keys
