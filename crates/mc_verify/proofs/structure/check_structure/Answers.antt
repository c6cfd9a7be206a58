use Rattle.mc_verify.proofs.Leasts.{free_structured}
use Rattle.mc_verify.proofs.structure.check_structure.Goals as goal

pub returns-clause-structured : goal.returns-clause-structured
returns-clause-structured c = λ whose. free_structured c.args.code.now whose c.in_ok-check_kind-4.ensures.none.none
