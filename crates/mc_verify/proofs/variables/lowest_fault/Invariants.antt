use Rattle.std.proofs.Common.{ℕ, ◌<◌}
use Rattle.mc_sound.specs.Faults.{IsFault}
use Rattle.mc_verify.proofs.variables.lowest_fault.Given as goal

abbrev pub invariant-places : goal.invariant-places
invariant-places l = (before : ℕ) → before < l.place → IsFault l.code l.fn.kind l.fn.actor before → ⊥
