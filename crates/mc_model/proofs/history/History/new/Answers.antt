-- Where a request has a fault, the sections are no history.
use Rattle.std.proofs.Common.{rules, ◌≢◌}
use Rattle.std.proofs.lemmas.Result.{err_from_is_err_and}
use Rattle.mc_model.specs.declared.rules.HistoryKind.TheVariants.{OutOfMemory}
use Rattle.mc_model.specs.{Sections.Sections, History.IsFirstFault}
use Rattle.mc_model.proofs.Prefixes.{no_history}
use Rattle.mc_model.proofs.history.History.new.Goals as goal

pub returns-in_err-push_all-clause-none : goal.returns-in_err-push_all-clause-none
returns-in_err-push_all-clause-none c =
    let p = err_from_is_err_and c.from_residual.result c.from_residual.ensures.1 in
    let s : Sections = record { p = c.args.p.items; a = c.args.a.items; b = c.args.b.items } in
    let e = c.in_err-push_all.field-0.0 in
    let first : e.0 ≢ OutOfMemory → IsFirstFault s e.0 e.1 e.2 = λ other. search rules in
    rw (p.1, p.2) (λ other. no_history s e.0 e.1 e.2 (first other))

pub returns-in_err-push_all-2-clause-none : goal.returns-in_err-push_all-2-clause-none
returns-in_err-push_all-2-clause-none c =
    let p = err_from_is_err_and c.from_residual-in_err-push_all-2.result c.from_residual-in_err-push_all-2.ensures.1 in
    let s : Sections = record { p = c.args.p.items; a = c.args.a.items; b = c.args.b.items } in
    let e = c.in_err-push_all-2.field-0.0 in
    let first : e.0 ≢ OutOfMemory → IsFirstFault s e.0 e.1 e.2 = λ other. search rules in
    rw (p.1, p.2) (λ other. no_history s e.0 e.1 e.2 (first other))

pub returns-in_err-push_all-3-clause-none : goal.returns-in_err-push_all-3-clause-none
returns-in_err-push_all-3-clause-none c =
    let p = err_from_is_err_and c.from_residual-in_err-push_all-3.result c.from_residual-in_err-push_all-3.ensures.1 in
    let s : Sections = record { p = c.args.p.items; a = c.args.a.items; b = c.args.b.items } in
    let e = c.in_err-push_all-3.field-0.0 in
    let first : e.0 ≢ OutOfMemory → IsFirstFault s e.0 e.1 e.2 = λ other. search rules in
    rw (p.1, p.2) (λ other. no_history s e.0 e.1 e.2 (first other))
