use Rattle.std.proofs.Common.{◌≡◌, ◌-◌}
use Rattle.mc_image.specs.ImageReading.{items_in, key_in, keys_in}
use Rattle.mc_image.proofs.read_declared.read_keys.Given as goal

abbrev pub invariant-loop : goal.invariant-loop
invariant-loop l = items_in key_in (l.count - l.counter) l.keys.items l.fields ≡ keys_in l.fn.fields
