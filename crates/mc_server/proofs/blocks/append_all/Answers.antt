use Rattle.mc_server.proofs.Joined.{pieces_more}
use Rattle.mc_server.proofs.blocks.append_all.Goals as goal

pub pieces-preserved : goal.pieces-preserved
pieces-preserved c =
    pieces_more (λ piece. piece.now) c.args.pieces.now c.pieces.piece-index _ c.args.out.now.items _ _ c.pieces-test.true c.pieces.invariant
    c.in_default.ensures.items
