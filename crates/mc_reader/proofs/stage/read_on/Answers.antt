use Rattle.std.proofs.lemmas.Result.{err_from_is_err_and}
use Rattle.mc_reader.proofs.StepLemmas.{on_block, on_block_fault}
use Rattle.mc_reader.proofs.stage.read_on.Goals as goal

pub returns-in_err-step-in-Block : goal.returns-in_err-step-in-Block
returns-in_err-step-in-Block c =
    let p = err_from_is_err_and c.from_residual.result c.from_residual.ensures.1 in
    rw (p.1, p.2, c.in-Block.is) (on_block_fault c.args.shape.verb c.args.shape.key.now c.in-Block.line c.in-Block.block c.args.piece.now
    c.in_err-step-in-Block.field-0.0 (rw c.in-Block.is at c.requires) c.in_err-step-in-Block.ensures)

pub returns-in_ok-step-in-Block : goal.returns-in_ok-step-in-Block
returns-in_ok-step-in-Block c =
    rw (c.in-Block.is, c.after_block.ensures)
    (on_block c.args.shape.verb c.args.shape.key.now c.in-Block.line c.in-Block.block c.args.piece.now
    c.in_ok-step-in-Block.step (rw c.in-Block.is at c.requires) c.in_ok-step-in-Block.ensures)
