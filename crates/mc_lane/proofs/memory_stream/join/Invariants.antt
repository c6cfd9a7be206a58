use Rattle.std.specs.Prelude.{◌≡◌, ◌++◌, map, drop, vec_len}
use Rattle.std.specs.List.{concat}
use Rattle.mc_lane.specs.MemoryStreams.{ends_from}
use Rattle.mc_lane.proofs.memory_stream.join.Given as goal

-- what is joined so far, and what the rest adds
abbrev pub invariant-loop-piece : goal.invariant-loop-piece
invariant-loop-piece l =
    let pieces = map (λ piece. piece.now) l.pieces in
    record {
      bytes : l.bytes.items ++ concat (drop l.piece-index pieces) ≡ concat pieces;
      ends : l.ends.items ++ ends_from (vec_len l.bytes) (drop l.piece-index pieces) ≡ ends_from 0 pieces;
    }
