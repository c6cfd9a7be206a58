use Rattle.std.proofs.lemmas.Result.{err_from_is_err_and}
use Rattle.mc_cli.proofs.read_stress.read_stress.Goals as goal

pub returns-in_err-timeout-clause-none : goal.returns-in_err-timeout-clause-none
returns-in_err-timeout-clause-none c =
    let p = err_from_is_err_and c.from_residual-in_err-timeout.result c.from_residual-in_err-timeout.ensures.1 in
    rw (p.1) (λ args is. c.in_err-timeout.ensures.none _ is.timeout)
