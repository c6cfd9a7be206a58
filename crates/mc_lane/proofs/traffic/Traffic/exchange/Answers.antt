use Rattle.std.proofs.Common.{refl}
use Rattle.mc_lane.specs.Streams.{no_counts}
use Rattle.mc_lane.proofs.Carried.{Carries-both}
use Rattle.mc_lane.proofs.traffic.Traffic.exchange.Goals as goal

-- the request was written, and then the reply was read
pub returns-in-Ok : goal.returns-in-Ok
returns-in-Ok g c =
    let sent = c.in_default.ensures in
    let received = c.in-Ok.ensures in
    record {
      after = g.S.Stream.state c.receive.new.stream;
      written = sent.written;
      received = received.received;
      stream = refl;
      carries = Carries-both (g.S.Stream.state c.args.stream.now) (g.S.Stream.state c.send.new.stream)
          (g.S.Stream.state c.receive.new.stream) received.received sent.written no_counts sent.carries received.carries;
      last = received.last;
      sent = sent.recorded;
      got = received.recorded;
      limit = refl;
      within = received.within;
      fault = refl;
      outcome = (sent.outcome, received.outcome);
    }
