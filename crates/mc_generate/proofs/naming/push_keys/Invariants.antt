use Rattle.std.proofs.Common.{◌≡◌, ◌++◌, take}
use Rattle.std.specs.List.{flat_map}
use Rattle.mc_image.specs.Image.{with_length}
use Rattle.mc_generate.proofs.naming.push_keys.Given as goal

abbrev pub invariant-keys : goal.invariant-keys
invariant-keys l = l.out.items ≡ l.initial.out.items ++ flat_map with_length (take l.key-index l.keys)
