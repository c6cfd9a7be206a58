use Rattle.mc_verify.proofs.Leasts.{NoneBefore}
use Rattle.mc_verify.proofs.lowest.check_kind.Given as goal

abbrev pub invariant-sections : goal.invariant-sections
invariant-sections g l = NoneBefore l.code l.kind l.actor-index
