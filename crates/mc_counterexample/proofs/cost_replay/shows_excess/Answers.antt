use Rattle.std.proofs.Common.{◌≡◌, true, sym, subst, ◌∙◌, arith}
use Rattle.mc_counterexample.specs.Replays.{AreInside, are_heard}
use Rattle.mc_counterexample.proofs.{CostReplays.excess_heard, CostReplays.excess_from_first, InterleavingEnds.first_inside}
use Rattle.mc_counterexample.proofs.cost_replay.shows_excess.Goals as goal

pub returns-then-not-are_heard : goal.returns-then-not-are_heard
returns-then-not-are_heard c = (
  λ e. absurd (cc),
  λ shows.
      let heard = c.are_heard.ensures ∙ excess_heard c.args.code.now c.args.measure c.args.actor c.args.place c.args.shown.now shows in
      let isnt = c.if-not-are_heard.true in
      grind (arith, heard, isnt),
)

pub replies-init : goal.replies-init
replies-init c =
    let is = c.if-not-are_heard.false in
    let result : c.are_heard.result ≡ true = grind (arith, is) in
    let heard : are_heard c.args.actor c.args.shown.now ≡ true = sym c.are_heard.ensures ∙ result in
    let none = c.first-replay.ensures.cost in
    record {
      inside = subst (AreInside c.args.code.now) (sym c.first-replay.ensures.places) (first_inside c.args.code.now c.requires);
      small = omega (arith, none);
      left = excess_from_first c.args.code.now c.args.measure c.args.actor c.args.place c.first-replay.result c.first-replay.ensures.places
          none c.args.shown.now heard;
    }
