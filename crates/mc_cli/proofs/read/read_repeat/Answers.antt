use Rattle.std.proofs.lemmas.Result.{err_from_is_err_and}
use Rattle.clap.specs.Words.{first_value, found_of}
use Rattle.mc_cli.proofs.Once.{no_times}
use Rattle.mc_cli.proofs.read.read_repeat.Goals as goal

pub returns-in_err-times-clause-none : goal.returns-in_err-times-clause-none
returns-in_err-times-clause-none c =
    let p = err_from_is_err_and c.from_residual.result c.from_residual.ensures.1 in
    rw (p.1) (no_times (first_value (found_of c.args.options.now)) c.in_err-times.ensures.none)
