use Rattle.std.proofs.Common.{◌<◌, ◌≤◌, [], length, take, sym, subst, ◌∙◌, arith}
use Rattle.std.proofs.lemmas.Grind.{common_steps}
use Rattle.mc_lane.specs.Streams.{no_counts, Carries}
use Rattle.mc_relay.proofs.Handing.{can_go_on, failed, wrote, front_of, piece_read, passed_more, passes_front}
use Rattle.mc_relay.proofs.passing.pass_on.Goals as goal

-- a write failed in the piece
pub returns-then-is_err : goal.returns-then-is_err
returns-then-is_err g c =
    let count = c.in-Ok-read.count in
    let b = g.F.Stream.state c.loop.from in
    let d = g.F.Stream.state c.read.new.self in
    let piece = take count c.as_slice.result.now in
    let some : 0 < count = omega arith in
    let room : count ≤ c.loop.room.len = grind (arith, common_steps) in
    let is = front_of count c.loop.room.len c.read.new.buffer _ c.as_slice.result.now c.as_slice.ensures.value c.in-Ok-read.ensures.0 room in
    let read = piece_read b d (take count c.read.new.buffer) (length c.read.new.buffer) count some c.in-Ok-read.ensures.1 in
    let carried = subst (λ xs. Carries b d xs [] no_counts) (sym is) read in
    let q = g.T.Stream.state c.loop.to in
    let r = g.T.Stream.state c.write_all.new.stream in
    let put = failed piece q r c.write_all.result (sym c.is_err.ensures.value ∙ c.if-is_err.true) c.write_all.ensures in
    passes_front (g.F.Stream.state c.args.from.now) b d (g.T.Stream.state c.args.to.now) q r (g.E.Ear.heard c.args.ear.now)
    (g.E.Ear.heard c.loop.ear) (g.E.Ear.heard c.hear.new.self) piece c.loop.invariant.5 carried c.hear.ensures put

-- it goes on after the piece
pub loop-preserved : goal.loop-preserved
loop-preserved g c =
    let count = c.in-Ok-read.count in
    let b = g.F.Stream.state c.loop.from in
    let d = g.F.Stream.state c.read.new.self in
    let piece = take count c.as_slice.result.now in
    let some : 0 < count = omega arith in
    let room : count ≤ c.loop.room.len = grind (arith, common_steps) in
    let is = front_of count c.loop.room.len c.read.new.buffer _ c.as_slice.result.now c.as_slice.ensures.value c.in-Ok-read.ensures.0 room in
    let read = piece_read b d (take count c.read.new.buffer) (length c.read.new.buffer) count some c.in-Ok-read.ensures.1 in
    let carried = subst (λ xs. Carries b d xs [] no_counts) (sym is) read in
    let q = g.T.Stream.state c.loop.to in
    let r = g.T.Stream.state c.write_all.new.stream in
    let put = wrote piece q r c.write_all.result (sym c.is_err.ensures.value ∙ c.if-is_err.false) c.write_all.ensures in (
      tt,
      tt,
      c.loop.invariant.2,
      can_go_on b d piece [] carried c.loop.invariant.3,
      can_go_on q r [] piece put c.loop.invariant.4,
      passed_more (g.F.Stream.state c.args.from.now) b d (g.T.Stream.state c.args.to.now) q r (g.E.Ear.heard c.args.ear.now)
          (g.E.Ear.heard c.loop.ear) (g.E.Ear.heard c.hear.new.self) piece c.loop.invariant.5 carried c.hear.ensures put,
    )
