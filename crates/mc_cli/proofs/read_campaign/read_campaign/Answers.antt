use Rattle.std.proofs.{lemmas.Result.err_from_is_err_and, Common.codes}
use Rattle.clap.specs.Words.{first_value, found_of}
use Rattle.mc_cli.proofs.Once.{name_is, plan_once}
use Rattle.mc_cli.proofs.read_campaign.read_campaign.Goals as goal

pub returns-then-not-name_fits-clause-none : goal.returns-then-not-name_fits-clause-none
returns-then-not-name_fits-clause-none c args is =
    let value = first_value (found_of c.args.options.now) in
    let same = plan_once value c.in_ok-plan.plan args.plan c.in_ok-plan.ensures.plan is.plan in
    let named = name_is (value (codes "name")) c.in_ok-name.name c.in_ok-name.ensures.value in
    absurd (cc (c.name_fits.ensures.1 (rw (named, same) is.keys), c.if-not-name_fits.true))

pub returns-in_err-timeout-clause-none : goal.returns-in_err-timeout-clause-none
returns-in_err-timeout-clause-none c =
    let p = err_from_is_err_and c.from_residual-in_err-timeout.result c.from_residual-in_err-timeout.ensures.1 in
    rw (p.1) (λ args is. c.in_err-timeout.ensures.none _ is.timeout)
