use Rattle.std.proofs.lemmas.Result.{err_from_is_err_and}
use Rattle.clap.specs.Words.{first_value, found_of}
use Rattle.mc_cli.proofs.Once.{no_time}
use Rattle.mc_cli.proofs.read_campaign.read_until.Goals as goal

pub returns-in_err-time-clause-none : goal.returns-in_err-time-clause-none
returns-in_err-time-clause-none c =
    let p = err_from_is_err_and c.from_residual.result c.from_residual.ensures.1 in
    rw (p.1) (no_time (first_value (found_of c.args.options.now)) c.in_err-time.ensures.none)
