use Rattle.std.proofs.Common.{[], refl, sym}
use Rattle.mc_server.specs.Answers.{shown}
use Rattle.mc_server.proofs.{Putting.IsPut-none, Putting.put_with_room, Shown.shown_none}
use Rattle.mc_server.proofs.answer.show.Goals as goal

pub returns : goal.returns
returns g c =
    let text = shown c.args.key c.in-Ok.reply in
    let may = rw c.retrieval-request.ensures at c.in-Ok.ensures in
    let put = rw (c.as_slice-2.ensures, c.as_slice-3.ensures, c.retrieval-request.ensures) at c.in_ok-append_block.ensures.ok in (
      text,
      (c.in-Ok.reply, may, refl),
      put_with_room text c.args.held.now.items c.make_room.new.held.items c.append_block.new.out.items (g.S.Stream.state c.args.stream.now)
          (g.S.Stream.state c.make_room.new.stream) c.in_ok-make_room.ensures (rw c.in-Hit.is put),
    )

pub returns-in_default : goal.returns-in_default
returns-in_default g c =
    let may = rw c.retrieval-request.ensures at c.in-Ok.ensures in (
      [],
      (c.in-Ok.reply, may, sym (shown_none c.args.key c.in-Ok.reply c.in_default.not-Hit)),
      IsPut-none c.args.held.now.items (g.S.Stream.state c.args.stream.now),
    )
