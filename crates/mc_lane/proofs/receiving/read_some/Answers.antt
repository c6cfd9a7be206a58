use Rattle.std.proofs.{Common.arith, lemmas.Grind.common_steps}
use Rattle.mc_lane.proofs.Received.{Adds-end, Adds-bytes}
use Rattle.mc_lane.proofs.receiving.read_some.Goals as goal

-- the read found the end
pub returns-then-count-eq0 : goal.returns-then-count-eq0
returns-then-count-eq0 g c =
    Adds-end c.args.limit c.args.got.now.items c.reserve.new.self.items c.read.new.buffer (g.S.Stream.state c.args.stream.now)
    (g.S.Stream.state c.read.new.self) c.in-Ok.count (grind (arith, common_steps)) (grind (arith, common_steps)) c.reserve.ensures.items
    (omega arith) c.in-Ok.ensures.1 c.in-Ok.ensures.2

-- it brought some bytes
pub returns : goal.returns
returns g c =
    Adds-bytes c.args.limit c.args.got.now.items c.extend_from_slice.new.self.items c.read.new.buffer (g.S.Stream.state c.args.stream.now)
    (g.S.Stream.state c.read.new.self) c.in-Ok.count (grind (arith, common_steps)) c.in-Ok.ensures.0 (grind (arith, common_steps))
    (grind (arith, common_steps)) c.in-Ok.ensures.1
