use Rattle.std.proofs.Common.{Ok}
use Rattle.mc_reader.specs.{AskEnds.ChunkEnds, AskStages.IsChunkAt}
use Rattle.mc_reader.proofs.AskSteps.{ask_step_after}
use Rattle.mc_reader.proofs.ask_stage.read_body.Goals as goal

pub returns : goal.returns
returns c =
    ask_step_after (ChunkEnds c.args.line) (IsChunkAt c.args.line) c.args.body.items c.split_at.result.0.now c.split_at.result.1.now
    c.extend_from_slice-2.new.self.items c.args.piece.now (Ok c.read_cr.result) c.in_ok-extend_from_slice-2.ensures.items
    c.split_at.ensures.by_index.0
    c.read_cr.ensures
