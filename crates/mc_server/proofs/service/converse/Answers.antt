use Rattle.std.proofs.Common.{◌≡◌, ℕ, ◌+◌, ◌<◌, ◌≤◌, [], length, take, sym, subst, ◌∙◌, arith}
use Rattle.std.proofs.lemmas.Grind.{common_steps}
use Rattle.mc_lane.specs.Streams.{no_counts, Carries}
use Rattle.mc_server.specs.Conversing.{IsServedSoFar}
use Rattle.mc_server.proofs.Pieces.{front_of, stops_without_memory, piece_read, served_more, stops_in_piece, served_none}
use Rattle.mc_server.proofs.Putting.{can_go_on}
use Rattle.mc_server.proofs.service.converse.Goals as goal

pub returns-in_default : goal.returns-in_default
returns-in_default g c =
    stops_without_memory (g.S.Stream.state c.args.stream.now) (g.S.Stream.state c.finish.new.stream) c.finish.new.self.requests c.finish.result
    (c.finish.ensures.same.1 ∙ c.requires.requests) (rw c.requires.held at c.finish.ensures.finishes)

pub pieces-init : goal.pieces-init
pieces-init g c =
    let a = g.S.Stream.state c.args.stream.now in
    record {
      some = omega (arith, c.in-Ok.ensures);
      within = omega arith;
      can_fail = c.requires.can_fail;
      held = c.requires.held;
      few = omega (arith, c.requires.requests);
      so_far = subst (λ (n : ℕ). IsServedSoFar a a c.args.conversation.now.reader 0 n) (sym c.requires.requests)
          (served_none a c.args.conversation.now.reader c.requires.reader);
    }

-- it came to an end in the piece
pub returns-in-Err : goal.returns-in-Err
returns-in-Err g c =
    let count = c.in-Ok-read.count in
    let a = g.S.Stream.state c.args.stream.now in
    let b = g.S.Stream.state c.pieces.stream in
    let d = g.S.Stream.state c.read.new.self in
    let e = g.S.Stream.state c.answer_piece.new.stream in
    let piece = take count c.as_slice.result.now in
    let some : 0 < count = omega arith in
    let room : count ≤ c.truncate.new.self.len = grind (arith, common_steps) in
    let is = front_of count c.truncate.new.self.len c.read.new.buffer _ c.as_slice.result.now c.as_slice.ensures.value c.in-Ok-read.ensures.0 room in
    let read = piece_read b d (take count c.read.new.buffer) (length c.read.new.buffer) count some c.in-Ok-read.ensures.1 in
    let carried = subst (λ xs. Carries b d xs [] no_counts) (sym is) read in
    stops_in_piece a b d e c.pieces.conversation.reader c.answer_piece.new.self.reader piece c.pieces.received c.pieces.conversation.requests
    c.answer_piece.new.self.requests c.in-Err.why c.pieces.invariant.so_far carried c.in-Err.ensures.answers

-- it goes on after the piece
pub pieces-preserved : goal.pieces-preserved
pieces-preserved g c =
    let before = c.pieces.invariant in
    let count = c.in-Ok-read.count in
    let a = g.S.Stream.state c.args.stream.now in
    let b = g.S.Stream.state c.pieces.stream in
    let d = g.S.Stream.state c.read.new.self in
    let e = g.S.Stream.state c.answer_piece.new.stream in
    let piece = take count c.as_slice.result.now in
    let some : 0 < count = omega arith in
    let room : count ≤ c.truncate.new.self.len = grind (arith, common_steps) in
    let is = front_of count c.truncate.new.self.len c.read.new.buffer _ c.as_slice.result.now c.as_slice.ensures.value c.in-Ok-read.ensures.0 room in
    let len : length (take count c.as_slice.result.now) ≡ count = grind (arith, common_steps) in
    let read = piece_read b d (take count c.read.new.buffer) (length c.read.new.buffer) count some c.in-Ok-read.ensures.1 in
    let carried = subst (λ xs. Carries b d xs [] no_counts) (sym is) read in
    let answers = c.in_default-answer_piece.ensures.answers in
    let last = answers before.so_far.rest before.so_far.read in
    record {
      some = c.fit.ensures;
      within = grind (arith, common_steps);
      can_fail = can_go_on d e [] last.3.put last.3.carries (can_go_on b d piece [] carried before.can_fail);
      held = c.in_default-answer_piece.ensures.held;
      few = omega (arith, c.in_default-answer_piece.ensures.few, len, before.few);
      so_far = served_more a b d e c.pieces.conversation.reader c.answer_piece.new.self.reader piece c.pieces.received
          (c.pieces.received + count) c.pieces.conversation.requests c.answer_piece.new.self.requests (omega (arith, len)) before.so_far carried answers;
    }
