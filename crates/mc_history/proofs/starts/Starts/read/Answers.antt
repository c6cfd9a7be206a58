use Rattle.std.proofs.lemmas.Result.{err_from_is_err_and}
use Rattle.mc_history.proofs.starts.Starts.read.Goals as goal

pub returns-in_err-number-clause-none : goal.returns-in_err-number-clause-none
returns-in_err-number-clause-none c =
    let p = err_from_is_err_and c.from_residual-in_err-number.result c.from_residual-in_err-number.ensures.1 in
    rw (p.1, p.2) (λ real start new. c.in_err-number.ensures.none real start new.0)
