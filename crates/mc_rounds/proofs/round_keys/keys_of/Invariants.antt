use Rattle.std.proofs.Common.{◌≡◌, ◌++◌, ◌+◌, ◌-◌}
use Rattle.std.specs.Option.{option_copied}
use Rattle.mc_rounds.specs.RoundKeys.{keys_of, keys_from}
use Rattle.mc_rounds.proofs.round_keys.keys_of.Given as goal

abbrev pub invariant-keys : goal.invariant-keys
invariant-keys l =
    l.keys.items ++ keys_from (option_copied l.name) (l.index + 1) (l.count - l.index) ≡ keys_of (option_copied l.name) l.count
