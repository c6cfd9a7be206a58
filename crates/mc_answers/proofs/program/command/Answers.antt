use Rattle.std.proofs.Common.{ap, inl, inr, refl, ◌∙◌}
use Rattle.mc_answers.proofs.Limits.{lacking_memory, most_is_small, takes_as_many, takes_few}
use Rattle.mc_answers.proofs.{LineFaults.asking_lacks_memory, LineFaults.fault_is, Questions.same_question, Right.out_of_memory_by}
use Rattle.mc_cli.specs.declared.request.Request.TheVariants as request
use Rattle.mc_answers.specs.{Answers.IsAnswerTo, Answers.most_read, Command.reads_history, Statuses.status_number}
use Rattle.mc_answers.proofs.program.command.Goals as goal

pub returns-in-Ok-Question-clause-answered : goal.returns-in-Ok-Question-clause-answered
returns-in-Ok-Question-clause-answered g c question asks input_old input_new output_old output_new =
    let asked_is = rw c.in-Ok-Question.field-0-is at (c.in-Ok-Question.ensures.only (request.Question question) asks) in
    let one = same_question c.in-Ok-Question.question question asked_is in
    (_, c.number.ensures, rw one at (c.answer_question.ensures.answered input_old input_new output_old output_new))

pub returns-in-Err-clause-answered : goal.returns-in-Err-clause-answered
returns-in-Err-clause-answered g c question asks input_old input_new output_old output_new =
    let memory = asking_lacks_memory _ (request.Question question) _ asks c.in-Err.ensures.fault in
    let written = c.explain_fault.ensures.memory memory output_old output_new in
    (_, c.number-in-Err.ensures, out_of_memory_by (IsAnswerTo question) _ _ _ _ (lacking_memory question) written.0 written.1)

pub returns-in-Err-clause-generated : goal.returns-in-Err-clause-generated
returns-in-Err-clause-generated g c seed job asks output_old output_new =
    let memory = asking_lacks_memory _ (request.Generate seed job) _ asks c.in-Err.ensures.fault in
    let written = c.explain_fault.ensures.memory memory output_old output_new in
    (_, c.number-in-Err.ensures, record { output = _; right = inr (refl, written.1); written = written.0 })

pub returns-in-Err-clause-elsewhere : goal.returns-in-Err-clause-elsewhere
returns-in-Err-clause-elsewhere g c wanted asks needs output_old output_new =
    let memory = asking_lacks_memory _ wanted _ asks c.in-Err.ensures.fault in
    let written = c.explain_fault.ensures.memory memory output_old output_new in
    (c.number-in-Err.ensures ∙ ap status_number written.1, inr written.0)

pub returns-in-Err-clause-no_fault : goal.returns-in-Err-clause-no_fault
returns-in-Err-clause-no_fault g c wanted asks =
    c.explain_fault.ensures.no_fault (asking_lacks_memory _ wanted _ asks c.in-Err.ensures.fault)

pub returns-in-Err-clause-fault : goal.returns-in-Err-clause-fault
returns-in-Err-clause-fault g c faulty output_old output_new faults_old faults_new = elim (fault_is _ _ c.in-Err.ensures.fault) [
  | inl memory ↦
      let written = c.explain_fault.ensures.memory memory output_old output_new in
      inr (inr (c.number-in-Err.ensures ∙ ap status_number written.1, c.explain_fault.ensures.no_fault memory, written.0))
  | inr (inl (text, is, shown)) ↦
      let written = c.explain_fault.ensures.shown text is in
      inr (inl (c.number-in-Err.ensures ∙ ap status_number (written.1 output_old output_new).0, written.0, shown))
  | inr (inr (text, is, told)) ↦
      let written = c.explain_fault.ensures.wrong text is in
      inl (c.number-in-Err.ensures ∙ ap status_number (written.1 faults_old faults_new).0, written.0, told)
]

pub returns-in-Ok-Question-clause-taken : goal.returns-in-Ok-Question-clause-taken
returns-in-Ok-Question-clause-taken g c =
    let asked = c.in-Ok-Question.question in
    takes_as_many (most_read asked) 67108865 _ _ (most_is_small asked) c.answer_question.ensures.taken

pub returns-in-Ok-Question-clause-few : goal.returns-in-Ok-Question-clause-few
returns-in-Ok-Question-clause-few g c wanted asks is =
    let asked = c.in-Ok-Question.question in
    let asked_is = rw c.in-Ok-Question.field-0-is at (c.in-Ok-Question.ensures.only wanted asks) in
    takes_few asked _ _ (ap reads_history asked_is ∙ is) c.answer_question.ensures.taken
