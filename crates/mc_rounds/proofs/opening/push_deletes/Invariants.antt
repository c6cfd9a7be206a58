use Rattle.std.proofs.Common.{◌≡◌, ◌++◌, map, take}
use Rattle.mc_rounds.specs.Openings.{delete_of}
use Rattle.mc_rounds.proofs.opening.push_deletes.Given as goal

abbrev pub invariant-keys : goal.invariant-keys
invariant-keys l = l.out.items ≡ l.fn.out.items ++ map delete_of (take l.key-index l.keys)
