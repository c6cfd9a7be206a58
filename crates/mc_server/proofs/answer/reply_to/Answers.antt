use Rattle.std.proofs.Common.{[], refl, inl}
use Rattle.mc_protocol.specs.Texts.{reply_text}
use Rattle.mc_server.proofs.Putting.{IsPut-none, put_with_room}
use Rattle.mc_server.proofs.answer.reply_to.Goals as goal

pub returns-then-noreply : goal.returns-then-noreply
returns-then-noreply g c =
    ([], inl (c.in-Ok.reply, c.in-Ok.ensures, rw c.if-noreply.true refl), IsPut-none c.args.held.now.items (g.S.Stream.state c.args.stream.now))

pub returns : goal.returns
returns g c =
    let text = reply_text c.args.request.now.key c.in-Ok.reply in (
      text,
      inl (c.in-Ok.reply, c.in-Ok.ensures, rw c.if-noreply.false refl),
      put_with_room text c.args.held.now.items c.make_room.new.held.items c.append_reply.new.out.items (g.S.Stream.state c.args.stream.now)
          (g.S.Stream.state c.make_room.new.stream) c.in_ok-make_room.ensures (rw c.as_slice.ensures at c.in_ok-append_reply.ensures.ok),
    )
