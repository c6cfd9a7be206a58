use Rattle.std.proofs.Common.{[], ap, ◌∙◌, arith}
use Rattle.mc_reader.specs.{AskParts.said_of, Asks.ask_of}
use Rattle.mc_reader.proofs.AskSteps.{said_whole, chunk_step, skip_step}
use Rattle.mc_reader.proofs.ask_stage.read_after_line.Goals as goal

pub returns-in-Whole : goal.returns-in-Whole
returns-in-Whole c = λ line l says. said_whole line c.args.piece.now (ask_of c.in-Whole.ask) l (says ∙ ap said_of c.in-Whole.is)

pub returns-in_ok-body-in-Block : goal.returns-in_ok-body-in-Block
returns-in_ok-body-in-Block c = λ line l says.
    let step = rw c.in_ok-body-in-Block.ensures.items at c.read_body.ensures in
    chunk_step line c.in-Block.line [] c.args.piece.now c.read_body.result l (says ∙ ap said_of c.in-Block.is) step

pub returns-in-Skips : goal.returns-in-Skips
returns-in-Skips c = λ line l says.
    skip_step line [] c.in-Skips.refuse c.in-Skips.bytes c.in-Skips.bytes c.args.piece.now c.skip.result l
    (says ∙ ap said_of c.in-Skips.is) (omega arith) c.skip.ensures
