use Rattle.std.proofs.lemmas.Result.{err_from_is_err_and}
use Rattle.clap.specs.Words.{first_value, found_of}
use Rattle.mc_cli.proofs.Once.{repeat_once}
use Rattle.mc_cli.proofs.read.read_run.Goals as goal

pub returns-in_err-timeout-clause-none : goal.returns-in_err-timeout-clause-none
returns-in_err-timeout-clause-none c =
    let p = err_from_is_err_and c.from_residual-in_err-timeout.result c.from_residual-in_err-timeout.ensures.1 in
    rw (p.1) (λ args is. c.in_err-timeout.ensures.none _ is.timeout)

pub returns-in_err-spread-clause-none : goal.returns-in_err-spread-clause-none
returns-in_err-spread-clause-none c =
    let p = err_from_is_err_and c.from_residual-in_err-spread.result c.from_residual-in_err-spread.ensures.1 in
    rw (p.1) (λ args is.
    let same = repeat_once (first_value (found_of c.args.options.now)) c.in_ok-repeat.repeat args.repeat c.in_ok-repeat.ensures.repeat is.repeat in
    c.in_err-spread.ensures.none args.spread (rw (c.default_spread.ensures.default, same) is.spread))
