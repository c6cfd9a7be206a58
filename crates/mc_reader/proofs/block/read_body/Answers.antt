use Rattle.mc_reader.specs.{Block.IsBlockOf, Replies.BlockEnds}
use Rattle.mc_reader.proofs.StepLemmas.{step_after}
use Rattle.mc_reader.proofs.block.read_body.Goals as goal

pub returns : goal.returns
returns c =
    step_after (BlockEnds c.args.hit) (IsBlockOf c.args.hit) c.args.body.items c.split_at.result.0.now c.split_at.result.1.now
    c.extend_from_slice-2.new.self.items c.args.piece.now c.read_cr.result c.in_ok-extend_from_slice-2.ensures.items
    c.split_at.ensures.by_index.0
    c.read_cr.ensures
