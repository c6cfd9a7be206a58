use Rattle.mc_answers.proofs.{Limits.lacking_memory, Right.answer_written, Right.fault_written}
use Rattle.mc_answers.specs.Answers.{IsAnswerTo, most_read}
use Rattle.mc_answers.proofs.program.answer_question.Goals as goal

pub returns-in-Ok : goal.returns-in-Ok
returns-in-Ok g c =
    answer_written _ _ _ _ (IsAnswerTo c.args.question) (most_read c.args.question) _ _ _ _ c.in-Ok.answer.output.items c.in-Ok.answer.status _
    c.in-Ok.ensures.right c.in-Ok.ensures.fails c.in-Ok.ensures.taken
    (rw c.as_slice.ensures.value at c.write_text.ensures.written) c.write_text.ensures.broken

pub returns-in-Err : goal.returns-in-Err
returns-in-Err g c =
    fault_written _ _ _ _ (IsAnswerTo c.args.question) (most_read c.args.question) _ _ _ _ c.in-Err.fault _
    (lacking_memory c.args.question)
    c.in-Err.ensures.fails c.in-Err.ensures.taken c.write_fault.ensures.broken c.write_fault.ensures.memory c.write_fault.ensures.status
