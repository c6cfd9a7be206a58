use Rattle.std.proofs.Common.{ℕ, ◌<◌}
use Rattle.mc_verify.specs.FaultGroups.{kind_of}
use Rattle.mc_sound.specs.Faults.{IsFault}
use Rattle.mc_verify.proofs.budgets.lowest.Given as goal

abbrev pub invariant-places : goal.invariant-places
invariant-places l = (before : ℕ) → before < l.place → IsFault l.code (kind_of l.fn.measure) l.fn.actor before → ⊥
