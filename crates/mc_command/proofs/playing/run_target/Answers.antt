use Rattle.std.proofs.Common.{inl, inr, refl}
use Rattle.std.specs.Arc.{arc_value}
use Rattle.mc_answers.proofs.Right.{answer_written, fault_written}
use Rattle.mc_answers.specs.Answers.{IsAnswerBy}
use Rattle.mc_command.specs.RepeatAnswers.{AnswersFor, Runs}
use Rattle.mc_command.proofs.RunTexts.{code_written}
use Rattle.mc_command.proofs.playing.run_target.Goals as goal

pub returns-in-Ok-Ok : goal.returns-in-Ok-Ok
returns-in-Ok-Ok g c =
    let target = c.args.target.now in
    let read = rw c.in-Ok-Ok.field-0-is at c.in-Ok-Ok.ensures.code in
    code_written _ _ _ _ (Runs target.repeat target.how.why target.name)
    (AnswersFor target.repeat target.how.why (arc_value c.in-Ok-Ok.checked).code) _ _ _ _ read.0 _ read.1 read.2
    (λ out end right. inl ((arc_value c.in-Ok-Ok.checked).code, read.3, right))
    c.in-Ok-Ok.ensures.fails c.in-Ok-Ok.ensures.taken c.write_code.ensures

pub returns-in-Ok-Err : goal.returns-in-Ok-Err
returns-in-Ok-Err g c =
    answer_written _ _ _ _ (IsAnswerBy (Runs c.args.target.now.repeat c.args.target.now.how.why c.args.target.now.name)) _ _ _ _ _
    c.in-Ok-Err.answer.output.items c.in-Ok-Err.answer.status _
    (rw c.in-Ok-Err.field-0-is at c.in-Ok-Err.ensures.unplayed) c.in-Ok-Err.ensures.fails c.in-Ok-Err.ensures.taken
    (rw c.as_slice.ensures.value at c.write_text-status.ensures.written) c.write_text-status.ensures.broken

pub returns-in-Err : goal.returns-in-Err
returns-in-Err g c =
    fault_written _ _ _ _ (IsAnswerBy (Runs c.args.target.now.repeat c.args.target.now.how.why c.args.target.now.name)) _ _ _ _ _
    c.in-Err.fault _ (λ text. inr (inr (refl, refl)))
    c.in-Err.ensures.fails c.in-Err.ensures.taken c.write_fault.ensures.broken c.write_fault.ensures.memory c.write_fault.ensures.status
