use Rattle.std.proofs.Common.{ℕ, ◌<◌}
use Rattle.mc_sound.specs.Faults.{IsFault}
use Rattle.mc_sound.specs.declared.refusal_kind.RefusalKind.TheVariants as kind
use Rattle.mc_verify.proofs.targets.lowest_bad_target.Given as goal

abbrev pub invariant-places : goal.invariant-places
invariant-places l = (before : ℕ) → before < l.place → IsFault l.code kind.BadTarget l.fn.actor before → ⊥
