use Rattle.std.proofs.Common.{◌∙◌, ap, arith, refl, sym}
use Rattle.std.proofs.lemmas.Result.{err_from_is_err_and}
use Rattle.mc_command.proofs.TallyMore.{none_gathered}
use Rattle.mc_command.proofs.ReportSteps.{none_waits, over_rightly, reported_by, waits_reported}
use Rattle.mc_command.proofs.reports.run_reports.Goals as goal

pub reports-init : goal.reports-init
reports-init g c =
    let none = c.new-gathered.ensures.none in
    let plan = c.args.target.now.plan in
    record {
      unbroken = refl;
      done = omega (arith, none.jobs);
      first = omega (arith, none.jobs, c.requires.first);
      waits = none_waits g.row.S.Denot c.args.target.now.plan c.args.until c.args.target.now.name _ _ c.new-gathered.ensures.settings
          (none_gathered plan.show plan.why _ none);
    }

pub write_report-requires : goal.write_report-requires
write_report-requires g c =
    let has = c.in_ok-gathered.ensures.gathered _ _ c.reports.invariant.waits in
    sym has.settings.brief

pub reports-preserved : goal.reports-preserved
reports-preserved g c =
    let has = c.in_ok-gathered.ensures.gathered _ _ c.reports.invariant.waits in
    let more = c.goes_on.ensures.more c.if-not-goes_on.false in
    let waits = c.in_ok-write_report.ensures.waits c.args.target.now.plan c.args.until c.args.target.now.name _ has
    (c.goes_on.ensures.whole c.if-not-goes_on.false) more (c.goes_on.ensures.allowed c.if-not-goes_on.false) in
    let same = ap (λ tally. tally.jobs) c.in_ok-write_report.ensures.tally in
    record {
      unbroken = c.in_ok-write_report.ensures.unbroken ∙ c.reports.invariant.unbroken;
      done = omega (arith, more, same);
      first = omega (arith, more, same, c.requires.last);
      waits = waits;
    }

pub returns-then-not-goes_on-clause-gathered : goal.returns-then-not-goes_on-clause-gathered
returns-then-not-goes_on-clause-gathered g c =
    let has = c.in_ok-gathered.ensures.gathered _ _ c.reports.invariant.waits in (
      c.reports.invariant.unbroken,
      has,
      over_rightly c.args.target.now.plan c.args.until c.args.target.now.name _ _ _ has (c.goes_on.ensures.over c.if-not-goes_on.true),
    )

pub returns-in_err-gathered-clause-stopped : goal.returns-in_err-gathered-clause-stopped
returns-in_err-gathered-clause-stopped g c =
    let p = err_from_is_err_and c.from_residual.result c.from_residual.ensures.1 in
    rw (p.1, p.2) (λ other. (
      c.reports.invariant.unbroken,
      waits_reported c.args.target.now.plan c.args.until c.args.target.now.name _ _ _ c.reports.invariant.waits,
    ))

pub returns-in_err-write_report-clause-stopped : goal.returns-in_err-write_report-clause-stopped
returns-in_err-write_report-clause-stopped g c =
    let p = err_from_is_err_and c.from_residual-in_err-write_report.result c.from_residual-in_err-write_report.ensures.1 in
    let has = c.in_ok-gathered.ensures.gathered _ _ c.reports.invariant.waits in
    rw (p.1, p.2) (λ other.
    let same = c.in_err-write_report.ensures.stopped other in (
      ap g.O.Sink.has_failed same ∙ c.reports.invariant.unbroken,
      rw (ap g.O.Sink.written same) (reported_by c.args.target.now.plan c.args.until c.args.target.now.name _ _ _ has),
    ))
