use Rattle.std.proofs.Common.{◌≡◌, drop}
use Rattle.mc_join.specs.Wholes.{follow, no_totals, sums}
use Rattle.mc_join.proofs.whole.whole_of.Given as goal

-- what the parts that are left come to after the others is what all parts come to
abbrev pub invariant-parts : goal.invariant-parts
invariant-parts l = (follow l.first l.totals.jobs (drop l.part-index l.fn.parts) ≡ follow l.first 0 l.fn.parts)
    × (sums l.totals (drop l.part-index l.fn.parts) ≡ sums no_totals l.fn.parts)
