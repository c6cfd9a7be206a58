use Rattle.std.proofs.Common.{[], inl, refl}
use Rattle.mc_command.proofs.ReportSteps.{reported_by}
use Rattle.mc_command.proofs.ReportTexts.{ended_answers, grows_by_none, memory_answers, not_run_answers, stopped_answers}
use Rattle.mc_command.proofs.reports.answer_campaign.Goals as goal

pub returns-in_err-not_run-clause-memory : goal.returns-in_err-not_run-clause-memory
returns-in_err-not_run-clause-memory g c fails = (refl, [], grows_by_none _, inl refl)

pub returns-then-not-may_run-clause-answered : goal.returns-then-not-may_run-clause-answered
returns-then-not-may_run-clause-answered g c =
    let is = c.in_ok-not_run.ensures in (
      refl,
      [],
      grows_by_none _,
      not_run_answers g.row.S.Denot c.args.target.now.plan.until c.args.target.now.plan c.args.target.now.name _ _ is.0 is.1,
    )

pub returns-in_err-last_answer-in-Ok-clause-memory : goal.returns-in_err-last_answer-in-Ok-clause-memory
returns-in_err-last_answer-in-Ok-clause-memory g c fails =
    let has = c.in-Ok.ensures.gathered in
    let plan = c.args.target.now.plan in
    let told = memory_answers plan.until plan c.args.target.now.name _ _ (c.may_run.ensures.one c.if-not-may_run.false)
    (reported_by plan c.until_of-until.result c.args.target.now.name c.in-Ok.gathered _ _ has.1) in
    (has.0, told.0, told.1, told.2)

pub returns-in_ok-last_answer-in-Ok-clause-answered : goal.returns-in_ok-last_answer-in-Ok-clause-answered
returns-in_ok-last_answer-in-Ok-clause-answered g c =
    let has = c.in-Ok.ensures.gathered in
    let plan = c.args.target.now.plan in
    let ends = c.in_ok-last_answer-in-Ok.ensures c.until_of-until.result _ _ has.1 has.2 in
    let told = ended_answers plan.until plan c.until_of-until.result c.args.target.now.name c.in-Ok.gathered _ _
    c.in_ok-last_answer-in-Ok.field-0.output.items c.in_ok-last_answer-in-Ok.field-0.status (c.may_run.ensures.one c.if-not-may_run.false)
    c.until_of-until.ensures.none c.until_of-until.ensures.found
    has.1 ends in
    (has.0, told.0, told.1, told.2)

pub returns-in_err-not_run-in-Err-NotRun-clause-memory : goal.returns-in_err-not_run-in-Err-NotRun-clause-memory
returns-in_err-not_run-in-Err-NotRun-clause-memory g c fails =
    let has = c.in-Err-NotRun.ensures.stopped (λ is. absurd (cc (is))) in
    let plan = c.args.target.now.plan in
    let told = memory_answers plan.until plan c.args.target.now.name _ _ (c.may_run.ensures.one c.if-not-may_run.false) has.1 in
    (has.0, told.0, told.1, told.2)

pub returns-in_ok-not_run-in-Err-NotRun-clause-answered : goal.returns-in_ok-not_run-in-Err-NotRun-clause-answered
returns-in_ok-not_run-in-Err-NotRun-clause-answered g c =
    let has = c.in-Err-NotRun.ensures.stopped (λ is. absurd (cc (is))) in
    let plan = c.args.target.now.plan in
    let is = c.in_ok-not_run-in-Err-NotRun.ensures in
    let told = stopped_answers plan.until plan c.args.target.now.name _ _ _ _ (c.may_run.ensures.one c.if-not-may_run.false) has.1 is.0 is.1 in
    (has.0, told.0, told.1, told.2)

pub returns-in-Err-OutOfMemory-clause-memory : goal.returns-in-Err-OutOfMemory-clause-memory
returns-in-Err-OutOfMemory-clause-memory g c fails =
    let has = c.in-Err-OutOfMemory.ensures.stopped (λ is. absurd (cc (is))) in
    let plan = c.args.target.now.plan in
    let told = memory_answers plan.until plan c.args.target.now.name _ _ (c.may_run.ensures.one c.if-not-may_run.false) has.1 in
    (has.0, told.0, told.1, told.2)
