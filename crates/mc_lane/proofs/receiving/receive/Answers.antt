use Rattle.std.proofs.Common.{arith, ℕ, ◌-◌, ◌≤◌, ◌∙◌, List, sym, ap, length, drop, take, length-append}
use Rattle.std.specs.Prelude.{Some, slice_range}
use Rattle.mc_protocol.specs.declared.reply.Reply.{Reply}
use Rattle.mc_lane.specs.Streams.{no_counts}
use Rattle.mc_lane.proofs.Carried.{count_in_range}
use Rattle.mc_lane.proofs.Received.{part_and_rest, part_and_next, part_of_longer, received_more, grown_more, Carries-after}
use Rattle.mc_lane.proofs.Received.{needs_more, replies, fails, fault_for-no_counts, fault_for-last, Stops-from_Brings}
use Rattle.mc_lane.proofs.receiving.receive.Goals as goal

-- the bytes from a place on, as the reader is fed them
abbrev from : ℕ → List ℕ → List ℕ
from place bytes = take (length bytes - place) (drop place bytes)

-- the reply ends in this piece
pub returns-in-Ok-Done : goal.returns-in-Ok-Done
returns-in-Ok-Done g c =
    let before = c.pieces.invariant in
    let got = c.pieces.got.items in
    let place = c.pieces.fed in
    let start = c.args.taken in
    let used = c.in-Ok-Done.used in
    let to : place ≤ length got = omega (arith, c.pieces.got.ok.0, before.to) in
    let answer = replies c.args.shape.verb c.pieces.reader.verb c.args.shape.key.now c.pieces.reader.key c.pieces.reader.fed
    c.feed.new.self.fed (slice_range got start place) (from place got) (from place c.deref.result.now) c.in-Ok-Done.field-0
    c.in-Ok-Done.reply used before.verb before.key before.read (ap (from place) c.deref.ensures.value) c.in-Ok-Done.field-0-is
    c.in-Ok-Done.ensures.answer in
    record {
      received = drop (length c.args.got.now.items) got;
      recorded = before.grown;
      within = omega (arith, c.pieces.got.ok.0, before.within);
      carries = before.carries;
      last = tt;
      outcome = record {
        forward = omega (arith, before.forward);
        within = count_in_range place used got to answer.1;
        spelled = rw (part_and_next got start place used before.forward to) at answer.2;
        fits = answer.3;
      };
    }

-- the piece brought a fault
pub returns-in-Err : goal.returns-in-Err
returns-in-Err g c =
    let before = c.pieces.invariant in
    let got = c.pieces.got.items in
    let place = c.pieces.fed in
    let start = c.args.taken in
    let f = c.in-Err.fault in
    let to : place ≤ length got = omega (arith, c.pieces.got.ok.0, before.to) in
    let stops = fails c.args.shape.verb c.pieces.reader.verb c.args.shape.key.now c.pieces.reader.key c.pieces.reader.fed
    c.feed.new.self.fed (slice_range got start place) (from place got) (from place c.deref.result.now) got start c.args.limit f
    before.verb before.key before.read (ap (from place) c.deref.ensures.value) (part_and_rest got start place before.forward to)
    c.in-Err.ensures.answer in
    record {
      received = drop (length c.args.got.now.items) got;
      recorded = before.grown;
      within = omega (arith, c.pieces.got.ok.0, before.within);
      carries = rw (c.fault_for.ensures, fault_for-no_counts (Reply × ℕ) f) before.carries;
      last = rw c.fault_for.ensures (fault_for-last (Reply × ℕ) f (g.S.Stream.state c.pieces.stream));
      outcome = rw c.fault_for.ensures stops;
    }

-- the read brought nothing
pub returns-in-Err-read_some : goal.returns-in-Err-read_some
returns-in-Err-read_some g c =
    let before = c.pieces.invariant in
    let first = c.args.got.now.items in
    let got = c.pieces.got.items in
    let new = c.read_some.new.got.items in
    let place = c.pieces.fed in
    let start = c.args.taken in
    let read = c.in-Err-read_some.ensures in
    let to : place ≤ length got = omega (arith, c.pieces.got.ok.0, before.to) in
    let answer = needs_more c.args.shape.verb c.pieces.reader.verb c.args.shape.key.now c.pieces.reader.key c.pieces.reader.fed
    c.feed.new.self.fed (slice_range got start place) (from place got) (from place c.deref.result.now) c.in-Ok-More.field-0
    before.verb before.key before.read (ap (from place) c.deref.ensures.value) c.in-Ok-More.field-0-is c.in-Ok-More.ensures.answer in
    let unfinished = rw (part_and_rest got start place before.forward to) at answer.1 in
    let carried = Carries-after (g.S.Stream.state c.args.stream.now) (g.S.Stream.state c.pieces.stream)
    (g.S.Stream.state c.read_some.new.stream) (drop (length first) got) read.brought _ before.carries read.carries in
    record {
      received = drop (length first) new;
      recorded = grown_more first got new read.brought before.grown read.recorded;
      within = read.within;
      carries = rw (received_more first got new read.brought before.grown read.recorded) carried;
      last = read.last;
      outcome = Stops-from_Brings c.args.shape.verb c.args.shape.key.now got read.brought new start c.args.limit
          c.in-Err-read_some.fault unfinished read.recorded read.outcome;
    }

-- the read brought the next piece
pub pieces-preserved : goal.pieces-preserved
pieces-preserved g c =
    let before = c.pieces.invariant in
    let first = c.args.got.now.items in
    let got = c.pieces.got.items in
    let new = c.read_some.new.got.items in
    let place = c.pieces.fed in
    let start = c.args.taken in
    let read = c.in_default.ensures in
    let to : place ≤ length got = omega (arith, c.pieces.got.ok.0, before.to) in
    let taken : start ≤ length got = omega (arith, before.forward, to) in
    let answer = needs_more c.args.shape.verb c.pieces.reader.verb c.args.shape.key.now c.pieces.reader.key c.pieces.reader.fed
    c.feed.new.self.fed (slice_range got start place) (from place got) (from place c.deref.result.now) c.in-Ok-More.field-0
    before.verb before.key before.read (ap (from place) c.deref.ensures.value) c.in-Ok-More.field-0-is c.in-Ok-More.ensures.answer in
    let carried = Carries-after (g.S.Stream.state c.args.stream.now) (g.S.Stream.state c.pieces.stream)
    (g.S.Stream.state c.read_some.new.stream) (drop (length first) got) read.brought no_counts before.carries read.carries in
    let lengths = length-append got read.brought in
    record {
      forward = omega arith;
      to = omega (arith, ap length read.recorded, lengths, c.pieces.got.ok.0, c.read_some.new.got.ok.0, c.len-fed.ensures);
      verb = c.feed.ensures.verb ∙ before.verb;
      key = c.feed.ensures.key ∙ before.key;
      read = answer.0 ∙ ap Some (part_and_rest got start place before.forward to
          ∙ sym (part_of_longer got new read.brought start taken read.recorded)
          ∙ ap (slice_range new start) (sym (c.len-fed.ensures ∙ c.pieces.got.ok.0)));
      grown = grown_more first got new read.brought before.grown read.recorded;
      within = omega (arith, read.within, c.read_some.new.got.ok.0);
      carries = rw (received_more first got new read.brought before.grown read.recorded) carried;
    }
