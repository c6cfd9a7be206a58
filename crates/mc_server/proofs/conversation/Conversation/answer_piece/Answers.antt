use Rattle.std.proofs.Common.{◌++◌, ◌∙◌}
use Rattle.mc_server.proofs.Ending.{ended, went_on}
use Rattle.mc_server.proofs.conversation.Conversation.answer_piece.Goals as goal

pub returns-in-Ok-clause-answers : goal.returns-in-Ok-clause-answers
returns-in-Ok-clause-answers g c =
    went_on c.args.self.now.reader c.put_answers.new.self.reader c.args.piece.now c.put_answers.new.self.held.items
    (g.S.Stream.state c.args.stream.now) (g.S.Stream.state c.put_answers.new.stream) (g.S.Stream.state c.flush.new.stream)
    c.args.self.now.requests c.put_answers.new.self.requests c.flush.result (rw c.requires.held at c.in-Ok.ensures.answers)
    c.flush.ensures.written

pub returns-in-Err-clause-answers : goal.returns-in-Err-clause-answers
returns-in-Err-clause-answers g c = λ text read.
    let end = (rw c.requires.held at c.in-Err.ensures.answers) text read in (
      end.0,
      c.finish.ensures.same.1 ∙ end.1,
      ended (text ++ c.args.piece.now) c.put_answers.new.self.held.items (g.S.Stream.state c.args.stream.now)
          (g.S.Stream.state c.put_answers.new.stream) (g.S.Stream.state c.finish.new.stream) end.0 c.in-Err.why c.finish.result end.2
          c.finish.ensures.finishes,
    )
