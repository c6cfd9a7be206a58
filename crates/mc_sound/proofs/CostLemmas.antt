-- What calls cost.
use Rattle.std.proofs.Common.{[], ◌∷◌, arith}
use Rattle.mc_sound.specs.Laws.{PrefixesCostLess}

pub cost_less : PrefixesCostLess
cost_less c measure [] more = omega arith
cost_less c measure (t ∷ calls) more = let e = cost_less c measure calls more in omega (arith, e)
