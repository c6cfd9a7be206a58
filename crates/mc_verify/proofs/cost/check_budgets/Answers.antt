use Rattle.mc_sound.specs.declared.refusal_kind.RefusalKind.TheVariants as kind
use Rattle.mc_verify.proofs.Exceeding.{found_by}
use Rattle.mc_verify.proofs.cost.check_budgets.Goals as goal

pub check_kind-requires-clause-finds : goal.check_kind-requires-clause-finds
check_kind-requires-clause-finds c =
    found_by c.args.code.now kind.TooManyRequests _ _ c.lowest_places-places.ensures (λ actor answer said. said.1)

pub check_kind-requires-2-clause-finds : goal.check_kind-requires-2-clause-finds
check_kind-requires-2-clause-finds c =
    found_by c.args.code.now kind.TooManyBytes _ _ c.lowest_places-places-2.ensures (λ actor answer said. said.1)
