use Rattle.std.proofs.Common.{ℕ, ◌+◌, ◌++◌, refl, sym, ap, ◌∙◌, arith}
use Rattle.mc_reader.specs.Asks.{ask_of}
use Rattle.mc_server.specs.Asked.{count_one}
use Rattle.mc_server.proofs.Putting.{IsPut-none}
use Rattle.mc_server.proofs.Talking.{needs_more, is_asked, new_after, talk_one, talk_closed, talk_broken, talk_unread}
use Rattle.mc_server.proofs.conversation.Conversation.answer_next.Goals as goal

pub overflow_add-self : goal.overflow_add-self
overflow_add-self g c =
    let some = c.requires.read in
    let asked = is_asked c.args.self.now.reader c.feed.new.self some.0 c.args.unread.now c.in-Ok-Done.field-0 c.in-Ok-Done.ask
    c.in-Ok-Done.used c.in-Ok-Done.field-0-is some.1 c.in-Ok-Done.ensures in
    omega (arith, asked.1, asked.2, c.count_one.ensures.one, c.requires.few)

pub returns-in-Err : goal.returns-in-Err
returns-in-Err g c = λ text read.
    let asked = is_asked c.args.self.now.reader c.feed.new.self text c.args.unread.now c.in-Ok-Done.field-0 c.in-Ok-Done.ask
    c.in-Ok-Done.used c.in-Ok-Done.field-0-is read c.in-Ok-Done.ensures in (
      count_one (ask_of c.in-Ok-Done.ask),
      ap (λ (k : ℕ). c.args.self.now.requests + k) c.count_one.ensures.count,
      talk_broken text c.args.unread.now c.args.self.now.held.items c.answer.new.held.items (g.S.Stream.state c.args.stream.now)
          (g.S.Stream.state c.answer.new.stream) c.in-Ok-Done.used (ask_of c.in-Ok-Done.ask) c.in-Err.why asked.3 c.in-Err.ensures,
    )

pub returns-in-Ok-More : goal.returns-in-Ok-More
returns-in-Ok-More g c = (
  (IsPut-none c.args.self.now.held.items (g.S.Stream.state c.args.stream.now), refl),
  (λ text read. needs_more c.args.self.now.reader c.feed.new.self text c.args.unread.now c.in-Ok-More.field-0 c.in-Ok-More.field-0-is read
      c.in-Ok-More.ensures),
)

-- it goes on
pub returns-in-None : goal.returns-in-None
returns-in-None g c =
    let some = c.requires.read in
    let asked = is_asked c.args.self.now.reader c.feed.new.self some.0 c.args.unread.now c.in-Ok-Done.field-0 c.in-Ok-Done.ask
    c.in-Ok-Done.used c.in-Ok-Done.field-0-is some.1 c.in-Ok-Done.ensures in
    let on = sym c.why_closed-closed.ensures ∙ c.in-None.is in
    let put = c.in_default.ensures in (
      (new_after (ask_of c.in-Ok-Done.ask) c.feed.new.self on asked.0, asked.1, asked.2),
      (λ text read.
          let ends = is_asked c.args.self.now.reader c.feed.new.self text c.args.unread.now c.in-Ok-Done.field-0 c.in-Ok-Done.ask
          c.in-Ok-Done.used c.in-Ok-Done.field-0-is read c.in-Ok-Done.ensures in (
            count_one (ask_of c.in-Ok-Done.ask),
            ap (λ (k : ℕ). c.args.self.now.requests + k) c.count_one.ensures.count,
            omega (arith, c.count_one.ensures.count, c.count_one.ensures.one, asked.1),
            talk_one text c.args.unread.now put.0 c.args.self.now.held.items c.answer.new.held.items (g.S.Stream.state c.args.stream.now)
                (g.S.Stream.state c.answer.new.stream) c.in-Ok-Done.used (ask_of c.in-Ok-Done.ask) on ends.3 put.1 put.2,
          )),
    )

-- it closes
pub returns-in-Some : goal.returns-in-Some
returns-in-Some g c = λ text read.
    let asked = is_asked c.args.self.now.reader c.feed.new.self text c.args.unread.now c.in-Ok-Done.field-0 c.in-Ok-Done.ask
    c.in-Ok-Done.used c.in-Ok-Done.field-0-is read c.in-Ok-Done.ensures in
    let closed = sym c.why_closed-closed.ensures ∙ c.in-Some.is in
    let put = c.in_default.ensures in (
      count_one (ask_of c.in-Ok-Done.ask),
      ap (λ (k : ℕ). c.args.self.now.requests + k) c.count_one.ensures.count,
      talk_closed text c.args.unread.now put.0 c.args.self.now.held.items c.answer.new.held.items (g.S.Stream.state c.args.stream.now)
          (g.S.Stream.state c.answer.new.stream) c.in-Ok-Done.used (ask_of c.in-Ok-Done.ask) c.in-Some.why closed asked.3 put.1 put.2,
    )

pub returns-in-Err-OutOfMemory : goal.returns-in-Err-OutOfMemory
returns-in-Err-OutOfMemory g c = λ text read.
    (0, omega arith, talk_unread (text ++ c.args.unread.now) c.args.self.now.held.items (g.S.Stream.state c.args.stream.now))
