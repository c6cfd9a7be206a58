use Rattle.mc_lane.proofs.Pieces.{bytes_more, ends_more}
use Rattle.mc_lane.proofs.memory_stream.join.Goals as goal

-- one more piece is joined
pub loop-piece-preserved : goal.loop-piece-preserved
loop-piece-preserved c =
    let bytes = c.in_ok-extend_from_slice.ensures in
    let before = c.loop-piece.invariant in
    let pieces = c.args.pieces.now in
    let place = c.loop-piece.piece-index in
    let within = c.loop-piece-test.true in
    record {
      bytes = bytes_more (λ piece. piece.now) pieces place _ _ _ _ within before.bytes bytes.items;
      ends = ends_more (λ piece. piece.now) pieces place _ _ _ _ _ _ within before.ends bytes.len
          (rw (← c.len.ensures) c.in_ok-push.ensures.items);
    }
