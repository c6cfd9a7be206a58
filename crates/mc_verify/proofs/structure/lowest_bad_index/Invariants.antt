use Rattle.std.proofs.Common.{ℕ, ◌<◌}
use Rattle.mc_sound.specs.Faults.{IsFault}
use Rattle.mc_sound.specs.declared.refusal_kind.RefusalKind.TheVariants as kind
use Rattle.mc_verify.proofs.structure.lowest_bad_index.Given as goal

abbrev pub invariant-places : goal.invariant-places
invariant-places l = (before : ℕ) → before < l.place → IsFault l.code kind.BadIndex l.fn.actor before → ⊥
