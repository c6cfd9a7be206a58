use Rattle.mc_lane.specs.Streams.{no_counts}
use Rattle.mc_lane.proofs.Carried.{next_taken, count_in_range}
use Rattle.mc_relay.proofs.Handing.{breaks_at, Carries-written}
use Rattle.mc_relay.proofs.passing.write_all.Goals as goal

pub returns-in_default : goal.returns-in_default
returns-in_default g c =
    breaks_at c.args.bytes.now c.loop-written.written (g.S.Stream.state c.args.stream.now) (g.S.Stream.state c.loop-written.stream)
    (g.S.Stream.state c.write.new.self) c.loop-written.invariant.carries c.in_default.ensures.0

-- what one write took comes after what was written before
pub loop-written-preserved : goal.loop-written-preserved
loop-written-preserved g c =
    let before = c.loop-written.invariant in
    let bytes = c.args.bytes.now in
    let next = next_taken c.loop-written.written c.in-Ok.count bytes before.within in
    let both = Carries-written _ _ _ _ _ no_counts before.carries c.in-Ok.ensures.2 in
    record {
      within = count_in_range c.loop-written.written c.in-Ok.count bytes before.within c.in-Ok.ensures.0;
      carries = rw next both;
    }
