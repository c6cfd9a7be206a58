use Rattle.std.proofs.lemmas.Result.{err_from_is_err_and}
use Rattle.mc_reader.specs.AskStages.{progress_of}
use Rattle.mc_reader.proofs.AskFeeding.{answers_more, answers_done, answers_fault}
use Rattle.mc_reader.proofs.ask_reader.RequestReader.feed.Goals as goal

pub returns-in-More : goal.returns-in-More
returns-in-More c =
    let step = rw (c.replace-stage.ensures.value, c.in-More.is) at c.in_ok-stage.ensures.steps in
    rw (← c.self.view_is) (answers_more (progress_of c.self.inside.stage) c.args.piece.now c.in-More.stage step)

pub returns-in-Done : goal.returns-in-Done
returns-in-Done c =
    let step = rw (c.replace-stage.ensures.value, c.in-Done.is) at c.in_ok-stage.ensures.steps in
    rw (← c.self.view_is)
    (answers_done (progress_of c.self.inside.stage) (progress_of c.stage_after.result) c.args.piece.now c.in-Done.ask c.in-Done.unread
    c.stage_after.ensures.next step)

pub returns-in_err-stage : goal.returns-in_err-stage
returns-in_err-stage c =
    let p = err_from_is_err_and c.from_residual.result c.from_residual.ensures.1 in
    let step = rw c.replace-stage.ensures.value at c.in_err-stage.ensures.steps in
    rw (p.1, p.2, c.replace-stage.ensures.after, ← c.self.view_is)
    (answers_fault (progress_of c.self.inside.stage) c.args.piece.now c.in_err-stage.field-0.0 step)
