use Rattle.std.proofs.Common.{ap, ◌≡◌, ◌∙◌, ◌+◌, take, inl, inr, refl}
use Rattle.std.specs.Prelude.{min}
use Rattle.mc_protocol.specs.{Lines.LAST_NUMBER, Lines.line_count, Lines.lines_of_text, declared.lines.Separator.TheVariants.Space}
use Rattle.mc_answers.proofs.{Fronts.begins_inside, Refused.IfRefused-weaker}
use Rattle.mc_answers.specs.DriveAnswers.{Drives, line_after, lines_before}
use Rattle.mc_answers.specs.declared.status.Status.TheVariants as status
use Rattle.mc_answers.proofs.drive.drive_steps.Goals as goal

pub split_at-requires : goal.split_at-requires
split_at-requires c = begins_inside c.args.text.now c.args.checked.now.code c.args.size c.requires

pub returns-in_ok-lead-in-Ok : goal.returns-in_ok-lead-in-Ok
returns-in_ok-lead-in-Ok c =
    let before : c.count_lines-before.result ≡ lines_before c.args.text.now c.args.size =
    c.count_lines-before.ensures ∙ ap (λ front. line_count (lines_of_text Space front)) c.split_at.ensures.front in
    inl (
      c.args.checked.now.code,
      c.args.size,
      c.in-Ok.steps.items,
      c.requires,
      rw c.split_at.ensures.back at c.in-Ok.ensures.found,
      rw (before, c.split_at.ensures.back) at c.in_ok-lead-in-Ok.ensures,
    )

pub returns-in-Err : goal.returns-in-Err
returns-in-Err c =
    let first : c.saturating_add.result ≡ line_after (take c.args.size c.args.text.now) =
    c.saturating_add.ensures ∙ (ap (λ n. min (n + 1) LAST_NUMBER) c.count_lines-before.ensures
    ∙ ap (λ front. line_after front) c.split_at.ensures.front) in
    IfRefused-weaker c.refuse_steps.result _ (λ text. Drives c.args.how.why c.args.text.now text status.Refused)
    (λ text is. inr (
      inr (inr (
        c.in-Err.fault.kind,
        c.in-Err.fault.line,
        record {
          code = c.args.checked.now.code;
          size = c.args.size;
          begins = c.requires;
          kind = is.0;
          none = λ steps spelled. c.in-Err.ensures.none is.0 steps (rw c.split_at.ensures.back spelled);
          after = rw first at (c.in-Err.ensures.line is.0);
        },
        is.1,
      )),
      refl,
    )) c.refuse_steps.ensures
