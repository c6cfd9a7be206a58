use Rattle.std.proofs.lemmas.Result.{err_from_is_err_and}
use Rattle.clap.specs.Words.{first_value, found_of}
use Rattle.mc_cli.proofs.Once.{no_jobs, no_last}
use Rattle.mc_cli.proofs.read_campaign.read_plan.Goals as goal

pub returns-in_err-random_seed-clause-none : goal.returns-in_err-random_seed-clause-none
returns-in_err-random_seed-clause-none c =
    let p = err_from_is_err_and c.from_residual-in_err-random_seed.result c.from_residual-in_err-random_seed.ensures.1 in
    rw (p.1) (λ plan is. c.in_err-random_seed.ensures.none plan.random_seed is.random_seed)

pub returns-in_err-jobs-clause-none : goal.returns-in_err-jobs-clause-none
returns-in_err-jobs-clause-none c =
    let p = err_from_is_err_and c.from_residual-in_err-jobs.result c.from_residual-in_err-jobs.ensures.1 in
    rw (p.1) (no_jobs (first_value (found_of c.args.options.now)) c.in_ok-first.first c.in_ok-first.ensures.value
    c.in_err-jobs.ensures.none)

pub returns-then-not-has_last-clause-none : goal.returns-then-not-has_last-clause-none
returns-then-not-has_last-clause-none c =
    no_last (first_value (found_of c.args.options.now)) c.in_ok-first.first c.in_ok-jobs.jobs c.in_ok-first.ensures.value
    c.in_ok-jobs.ensures.jobs (λ below. absurd (cc (c.has_last.ensures.1 below, c.if-not-has_last.true)))
