use Rattle.std.proofs.Common.{ℕ, ◌<◌}
use Rattle.mc_protocol.specs.declared.actor.Actor.TheVariants as actor
use Rattle.mc_sound.specs.Faults.{IsFault}
use Rattle.mc_sound.specs.declared.refusal_kind.RefusalKind.TheVariants as kind
use Rattle.mc_verify.proofs.clearing.lowest_key_not_cleared.Given as goal

abbrev pub invariant-keys : goal.invariant-keys
invariant-keys l = (before : ℕ) → before < l.key → IsFault l.code kind.NotCleared actor.P before → ⊥
