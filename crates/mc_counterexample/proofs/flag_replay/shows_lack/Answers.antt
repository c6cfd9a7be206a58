use Rattle.mc_counterexample.proofs.{FlagReplays.lack_from_first, InterleavingEnds.first_inside}
use Rattle.mc_counterexample.specs.Replays.{AreInside}
use Rattle.std.proofs.Common.{subst, sym}
use Rattle.mc_counterexample.proofs.flag_replay.shows_lack.Goals as goal

pub replies-init : goal.replies-init
replies-init c = record {
  inside = subst (AreInside c.args.code.now) (sym c.first-replay.ensures.places) (first_inside c.args.code.now c.requires);
  left = lack_from_first c.args.code.now c.args.value c.args.actor c.args.place c.first-replay.result c.templates.ensures.kept c.first-replay.ensures.places
      c.first-replay.ensures.flags c.args.shown.now;
}
