use Rattle.std.proofs.Common.{◌≡◌, ◌≤◌, ◌∷◌, [], length, ap, refl, ◌∙◌, arith, length-append}
use Rattle.std.proofs.lemmas.Result.{err_from_is_err_and}
use Rattle.mc_protocol.proofs.FirstItems.{head_is, rest_is}
use Rattle.mc_history.specs.{declared.step_text.TheConstants.STEP_LIST_LIMIT, HistoryText.end_line}
use Rattle.mc_history.proofs.Reading.{read_on, read_all, stops, stops_at, ended}
use Rattle.mc_history.proofs.{StepLines.step_is_not_end, StepLists.steps_are_readable}
use Rattle.mc_history.proofs.step_text.read_steps.Goals as goal

pub returns-in_err-line-clause-none : goal.returns-in_err-line-clause-none
returns-in_err-line-clause-none c =
    let p = err_from_is_err_and c.from_residual.result c.from_residual.ensures.1 in
    rw (p.1, p.2) (λ real. ended steps_are_readable c.steps.steps.items c.steps.lines.words (c.in_err-line.ensures.end real) c.steps.invariant.same)

pub returns-then-is_only-clause-exact : goal.returns-then-is_only-clause-exact
returns-then-is_only-clause-exact c = λ all.
    let is_end : c.in_ok-line.line.words ≡ end_line = c.is_only.ensures.word.0 (cc (c.if-is_only.true)) in
    let few = c.steps.invariant.few in
    let read = read_all steps_are_readable c.steps.steps.items c.in_ok-line.line.words _ _ c.in_ok-line.ensures.line
    (λ step spelled. step_is_not_end _ step spelled is_end) c.steps.invariant.same all in
    ((λ h. let x = read.0 h in (x.0, rest_is _ _ _ _ x.2)), (λ x. read.1 (x.0, rw x.0 few, rw (is_end, x.1) refl)))

pub returns-in_err-step-clause-none : goal.returns-in_err-step-clause-none
returns-in_err-step-clause-none c =
    let p = err_from_is_err_and c.from_residual-in_err-step.result c.from_residual-in_err-step.ensures.1 in
    let going : c.in_ok-line.line.words ≡ end_line → ⊥ = λ e. let is_end = c.is_only.ensures.word.1 e in cc (is_end, c.if-is_only.false) in
    rw (p.1, p.2) (λ real. stops steps_are_readable c.steps.steps.items c.in_ok-line.line.words _ _ c.in_ok-line.ensures.line
    (λ step spelled _. c.in_err-step.ensures.none real step spelled) (λ all after. going (head_is _ _ _ _ after.2)) c.steps.invariant.same)

pub returns-then-len-ge-STEP_LIST_LIMIT-clause-none : goal.returns-then-len-ge-STEP_LIST_LIMIT-clause-none
returns-then-len-ge-STEP_LIST_LIMIT-clause-none c = λ real.
    let full : STEP_LIST_LIMIT ≤ length c.steps.steps.items = omega (arith, c.if-len-ge-STEP_LIST_LIMIT.true, c.len.ensures) in
    stops_at steps_are_readable c.steps.steps.items c.in_ok-line.line.words _ _ c.in_ok-step.step c.in_ok-line.ensures.line c.in_ok-step.ensures.found
    (λ few. absurd (omega (arith, few, full))) c.steps.invariant.same

pub steps-preserved : goal.steps-preserved
steps-preserved c =
    let longer = ap length c.in_ok-push.ensures.items ∙ length-append c.steps.steps.items (c.in_ok-step.step ∷ []) in
    record {
      few = omega (arith, c.if-len-ge-STEP_LIST_LIMIT.false, c.len.ensures, longer);
      same = read_on steps_are_readable c.steps.steps.items _ c.in_ok-line.line.words _ _ c.in_ok-step.step c.in_ok-line.ensures.line
          c.in_ok-push.ensures.items c.in_ok-step.ensures.found (omega (arith, c.if-len-ge-STEP_LIST_LIMIT.false, c.len.ensures)) c.steps.invariant.same;
    }
