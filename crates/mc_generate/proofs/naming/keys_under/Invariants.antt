use Rattle.std.proofs.Common.{◌≡◌, take, map}
use Rattle.mc_settings.specs.Namespaces.{key_under}
use Rattle.mc_generate.proofs.naming.keys_under.Given as goal

abbrev pub invariant-keys : goal.invariant-keys
invariant-keys l = l.under.items ≡ map (key_under l.name) (take l.key-index l.keys)
