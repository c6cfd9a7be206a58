use Rattle.std.proofs.Common.{ap, ap₂, cond, sym, ◌∙◌, ◌+◌}
use Rattle.std.specs.Prelude.{slice_index_or}
use Rattle.mc_command.specs.Replies.{answers_in, answers_of, capped, is_same_answer, no_answers}
use Rattle.mc_command.proofs.MoreAnswers.{one_more_request}
use Rattle.mc_command.proofs.replies.Replies.add.Goals as goal

pub returns : goal.returns
returns c earlier counts verb answer =
    let old = c.args.self.now in
    let sent = c.args.sent.now in
    let rows = old.by_verb in
    let row = c.add.ensures answer
    ∙ ap₂ (λ class r. cond (is_same_answer answer class) (capped (answers_in r answer + 1)) (answers_in r answer)) c.class_of.ensures c.of.ensures in
    one_more_request verb answer earlier sent (answers_of old verb) (answers_of old sent.request.verb) _ _ (counts verb answer)
    (λ same. ap (λ i. slice_index_or rows i no_answers) (sym same)) row (c.set.ensures verb)
