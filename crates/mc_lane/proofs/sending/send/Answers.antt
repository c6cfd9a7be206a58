use Rattle.std.proofs.Common.{arith}
use Rattle.mc_lane.proofs.Carried.{Carries-twice, next_taken, count_in_range, length_in_range, appended_twice}
use Rattle.mc_lane.proofs.sending.send.Goals as goal

-- what one write took comes after what was written before
pub loop-written-preserved : goal.loop-written-preserved
loop-written-preserved g c =
    let before = c.loop-written.invariant in
    let request = c.args.request.now in
    let next = next_taken c.loop-written.written c.in-Ok.count request before.within in
    let both = Carries-twice _ _ _ _ _ _ _ _ _ before.carries c.in-Ok.ensures.2 in
    let in_rest = count_in_range c.loop-written.written c.in-Ok.count request before.within c.in-Ok.ensures.0 in
    let taken = length_in_range c.loop-written.written c.in-Ok.count request before.within c.in-Ok.ensures.0 in
    let appended = c.in-Ok-extend_from_slice.ensures in
    record {
      within = in_rest;
      recorded = rw next (appended_twice _ _ _ _ _ before.recorded appended.items);
      carries = rw next both;
      room = omega (arith, appended.len, appended.capacity, before.room, taken);
    }
