use Rattle.std.proofs.lemmas.Result.{err_from_is_err_and}
use Rattle.mc_reader.specs.Stages.{stage_fed}
use Rattle.mc_reader.proofs.Feeding.{answers_more, answers_done, answers_fault}
use Rattle.mc_reader.proofs.reader.ReplyReader.feed.Goals as goal

pub returns-in_err-stage-clause-answer : goal.returns-in_err-stage-clause-answer
returns-in_err-stage-clause-answer c =
    let p = err_from_is_err_and c.from_residual.result c.from_residual.ensures.1 in
    let shape = c.self.inside.shape in
    let step = rw c.replace-stage.ensures.value at c.in_err-stage.ensures in
    rw (p.1, p.2, c.replace-stage.ensures.after, ← c.self.view_is)
    (answers_fault shape.verb shape.key.now (stage_fed c.self.inside.stage) c.args.piece.now c.in_err-stage.field-0.0 step)

pub returns-in-More-clause-answer : goal.returns-in-More-clause-answer
returns-in-More-clause-answer c =
    let shape = c.self.inside.shape in
    let step = rw (c.replace-stage.ensures.value, c.in-More.is) at c.in_ok-stage.ensures in
    rw (← c.self.view_is) (answers_more shape.verb shape.key.now (stage_fed c.self.inside.stage) c.args.piece.now c.in-More.stage step)

pub returns-in-Done-clause-answer : goal.returns-in-Done-clause-answer
returns-in-Done-clause-answer c =
    let shape = c.self.inside.shape in
    let step = rw (c.replace-stage.ensures.value, c.in-Done.is) at c.in_ok-stage.ensures in
    rw (c.replace-stage.ensures.after, ← c.self.view_is)
    (answers_done shape.verb shape.key.now (stage_fed c.self.inside.stage) c.args.piece.now c.in-Done.reply c.in-Done.unread step)
