use Rattle.std.proofs.Common.{Ok, [], ◌∷◌, ◌++◌}
use Rattle.mc_reader.specs.Lines.{CR}
use Rattle.mc_reader.proofs.AskSteps.{on_chunk, on_skip, valid_ask, valid_chunk, valid_skip}
use Rattle.mc_reader.proofs.ask_stage.read_on.Goals as goal

pub returns-in-Line-clause-valid : goal.returns-in-Line-clause-valid
returns-in-Line-clause-valid c = valid_ask c.in-Line.start.items c.args.piece.now c.read_ask_line.result c.read_ask_line.ensures

pub returns-in-Body-clause-valid : goal.returns-in-Body-clause-valid
returns-in-Body-clause-valid c =
    valid_chunk c.in-Body.line c.in-Body.body.items c.args.piece.now c.read_body.result c.read_body.ensures

pub returns-in-Cr-clause-valid : goal.returns-in-Cr-clause-valid
returns-in-Cr-clause-valid c =
    valid_chunk c.in-Cr.line (c.in-Cr.body.items ++ CR ∷ []) c.args.piece.now (Ok c.read_lf.result) c.read_lf.ensures

pub returns-in-Skip-clause-valid : goal.returns-in-Skip-clause-valid
returns-in-Skip-clause-valid c = valid_skip c.in-Skip.refuse c.in-Skip.left c.args.piece.now c.skip.result c.skip.ensures

pub returns-in-Body-clause-steps : goal.returns-in-Body-clause-steps
returns-in-Body-clause-steps c =
    rw c.in-Body.is (on_chunk c.in-Body.line c.in-Body.body.items c.args.piece.now c.read_body.result c.read_body.ensures)

pub returns-in-Cr-clause-steps : goal.returns-in-Cr-clause-steps
returns-in-Cr-clause-steps c =
    rw c.in-Cr.is (on_chunk c.in-Cr.line (c.in-Cr.body.items ++ CR ∷ []) c.args.piece.now (Ok c.read_lf.result) c.read_lf.ensures)

pub returns-in-Skip-clause-steps : goal.returns-in-Skip-clause-steps
returns-in-Skip-clause-steps c =
    rw c.in-Skip.is (on_skip c.in-Skip.refuse c.in-Skip.left c.args.piece.now c.skip.result c.skip.ensures)
