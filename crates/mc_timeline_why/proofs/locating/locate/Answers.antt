use Rattle.std.proofs.Common.{length, sym, subst, arith}
use Rattle.mc_linearize.specs.Claims.{ExplainsTimeline, TimelineClaim}
use Rattle.mc_timeline_why.specs.Fronts.{front}
use Rattle.mc_timeline_why.proofs.Places.{end_unexplained, halves_meet, start_explained}
use Rattle.mc_timeline_why.proofs.locating.locate.Goals as goal

pub halving-init : goal.halving-init
halving-init c =
    let notes = c.args.timeline.now in
    let key = c.args.key.now in
    record {
      order = omega arith;
      within = omega arith;
      before = subst (λ (claim : TimelineClaim). ExplainsTimeline (front key 0 notes) claim) (sym c.no_moves-explanation.ensures) (start_explained key notes);
      none = end_unexplained key notes c.count_of-unexplained.result (omega arith) c.requires;
    }

pub returns : goal.returns
returns c =
    halves_meet c.args.key.now c.args.timeline.now c.halving.explained c.halving.unexplained c.halving.explanation
    c.halving.invariant.order
    (omega arith)
    c.halving.invariant.within c.halving.invariant.before c.halving.invariant.none
