use Rattle.std.proofs.Common.{◌≡◌, refl}
use Rattle.std.proofs.lemmas.Result.{err_from_is_err_and}
use Rattle.mc_history.specs.HistoryText.{explain_line}
use Rattle.mc_linearize.specs.Claims.{TimelineClaim}
use Rattle.mc_timeline_text.proofs.TailLines.{is_explain, starts_after_explain, tail_of_starts}
use Rattle.mc_timeline_text.proofs.text.read_tail.Goals as goal

pub returns-in_err-start-clause-none : goal.returns-in_err-start-clause-none
returns-in_err-start-clause-none c =
    let p = err_from_is_err_and c.from_residual-in_err-start.result c.from_residual-in_err-start.ensures.1 in
    let explains = is_explain c.args.first.words c.requires (λ e. let ends = c.is_only.ensures.word.1 e in cc (ends, c.if-is_only.false)) in
    rw (p.1, p.2) (λ real claim spelled. starts_after_explain c.args.first.words _ claim explains spelled (c.in_err-start.ensures.none real))

pub returns-in_err-moves-clause-none : goal.returns-in_err-moves-clause-none
returns-in_err-moves-clause-none c =
    let p = err_from_is_err_and c.from_residual-in_err-moves.result c.from_residual-in_err-moves.ensures.1 in
    let explains = is_explain c.args.first.words c.requires (λ e. let ends = c.is_only.ensures.word.1 e in cc (ends, c.if-is_only.false)) in
    rw (p.1, p.2) (λ real claim spelled. starts_after_explain c.args.first.words _ claim explains spelled
    (λ (its : TimelineClaim) on. c.in_err-moves.ensures.none real its.moves ((c.in_ok-start.ensures.exact its).0 on).1))

pub returns-clause-found : goal.returns-clause-found
returns-clause-found c =
    let explains = is_explain c.args.first.words c.requires (λ e. let ends = c.is_only.ensures.word.1 e in cc (ends, c.if-is_only.false)) in
    tail_of_starts c.args.first.words _ _ explains ((c.in_ok-start.ensures.exact _).1 (refl, c.in_ok-moves.ensures.found))
