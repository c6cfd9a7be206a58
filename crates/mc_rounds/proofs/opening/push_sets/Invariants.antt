use Rattle.std.proofs.Common.{◌≡◌, ◌++◌, drop}
use Rattle.mc_rounds.specs.Openings.{sets_in}
use Rattle.mc_rounds.proofs.opening.push_sets.Given as goal

abbrev pub invariant-keys : goal.invariant-keys
invariant-keys l =
    l.out.items ++ sets_in l.generator (drop l.key-index l.keys) ≡ l.fn.out.items ++ sets_in l.fn.generator l.keys
