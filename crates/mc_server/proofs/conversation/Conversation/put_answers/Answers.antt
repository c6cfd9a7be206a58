use Rattle.std.proofs.Common.{◌+◌, ◌++◌, [], Ok, length-drop, sym, subst, ◌∙◌, arith}
use Rattle.mc_lane.proofs.Carried.{range_from}
use Rattle.mc_reader.specs.AskReading.{HasRead}
use Rattle.mc_server.specs.Conversing.{AnswersNext}
use Rattle.mc_server.proofs.{Putting.can_go_on, Talking.new_line, Talking.talk_none, Talking.talk_on, Talking.talk_and_none, Talking.talk_ends_on}
use Rattle.mc_server.proofs.conversation.Conversation.put_answers.Goals as goal

pub asks-init : goal.asks-init
asks-init g c = record {
  can_fail = c.requires.can_fail;
  some = c.requires.read;
  few = omega arith;
  talk = λ text read.
      (text, 0, read, omega arith, talk_none (text ++ c.args.piece.now) c.args.self.now.held.items (g.S.Stream.state c.args.stream.now));
}

pub asks-preserved : goal.asks-preserved
asks-preserved g c =
    let before = c.asks.invariant in
    let unread = c.asks.unread.now in
    let used = c.in-Ok-Some.used in
    let new = c.answer_next.new.self in
    let a = g.S.Stream.state c.args.stream.now in
    let b = g.S.Stream.state c.asks.stream in
    let d = g.S.Stream.state c.answer_next.new.stream in
    let next = subst (λ o. AnswersNext c.asks.self.reader new.reader unread c.asks.self.held.items new.held.items b d c.asks.self.requests
    new.requests (Ok o)) c.in-Ok-Some.field-0-is c.in-Ok-Some.ensures in
    let one = next.1 before.some.0 before.some.1 in
    rw (range_from used unread next.0.2) (record {
      can_fail = can_go_on b d [] one.3.put.written one.3.put.carries before.can_fail;
      some = ([], subst (λ p. HasRead p []) (sym next.0.0) new_line);
      few = omega (arith, length-drop used unread, one.1, one.2, next.0.2, before.few);
      talk = λ text read.
          let so_far = before.talk text read in
          let more = next.1 so_far.0 so_far.2 in (
            [],
            so_far.1 + more.0,
            subst (λ p. HasRead p []) (sym next.0.0) new_line,
            omega (arith, so_far.3, more.1),
            talk_on _ _ _ _ _ _ a b d so_far.1 more.0 so_far.4 more.3,
          );
    })

pub returns-in-Ok-None-clause-answers : goal.returns-in-Ok-None-clause-answers
returns-in-Ok-None-clause-answers g c = λ text read.
    let new = c.answer_next.new.self in
    let unread = c.asks.unread.now in
    let a = g.S.Stream.state c.args.stream.now in
    let b = g.S.Stream.state c.asks.stream in
    let d = g.S.Stream.state c.answer_next.new.stream in
    let next = subst (λ o. AnswersNext c.asks.self.reader new.reader unread c.asks.self.held.items new.held.items b d c.asks.self.requests
    new.requests (Ok o)) c.in-Ok-None.field-0-is c.in-Ok-None.ensures in
    let so_far = c.asks.invariant.talk text read in
    let said = next.1 so_far.0 so_far.2 in (
      so_far.0 ++ unread,
      so_far.1,
      next.0.1 ∙ so_far.3,
      talk_and_none (text ++ c.args.piece.now) (so_far.0 ++ unread) c.args.self.now.held.items c.asks.self.held.items new.held.items a b d so_far.1
          so_far.4 next.0.0,
      said.0,
      said.1,
    )

pub returns-in-Err-clause-answers : goal.returns-in-Err-clause-answers
returns-in-Err-clause-answers g c = λ text read.
    let new = c.answer_next.new.self in
    let a = g.S.Stream.state c.args.stream.now in
    let b = g.S.Stream.state c.asks.stream in
    let d = g.S.Stream.state c.answer_next.new.stream in
    let so_far = c.asks.invariant.talk text read in
    let end = c.in-Err.ensures so_far.0 so_far.2 in (
      so_far.1 + end.0,
      omega (arith, so_far.3, end.1),
      talk_ends_on (text ++ c.args.piece.now) (so_far.0 ++ c.asks.unread.now) c.args.self.now.held.items c.asks.self.held.items new.held.items a b d
          so_far.1 end.0 c.in-Err.why so_far.4 end.2,
    )
