use Rattle.std.proofs.Common.{◌↔◌, ◌*◌, ◌≤◌, drop}
use Rattle.mc_protocol.specs.Sections.{section_of}
use Rattle.mc_counterexample.specs.{CostReplays.ShowsExcess, CostReplays.ExceedsFrom, Replays.AreInside}
use Rattle.mc_counterexample.proofs.cost_replay.shows_excess.Given as goal

abbrev pub invariant-replies : goal.invariant-replies
invariant-replies l = record {
  inside : AreInside l.fn.code l.replay.places;
  small : l.replay.cost ≤ 1000 * section_of l.replay.places l.fn.actor;
  left : ShowsExcess l.fn.code l.fn.measure l.fn.actor l.fn.place l.fn.shown
      ↔ ExceedsFrom l.fn.code l.fn.measure l.fn.actor l.fn.place l.replay (drop l.reply-index l.fn.shown);
}
