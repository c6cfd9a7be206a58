use Rattle.std.proofs.Common.{◌↔◌, drop}
use Rattle.mc_counterexample.specs.{FlagReplays.ShowsLack, FlagReplays.LacksFrom, Replays.AreInside}
use Rattle.mc_counterexample.proofs.flag_replay.shows_lack.Given as goal

abbrev pub invariant-replies : goal.invariant-replies
invariant-replies l = record {
  inside : AreInside l.fn.code l.replay.places;
  left : ShowsLack l.fn.code l.fn.value l.fn.actor l.fn.place l.fn.shown
      ↔ LacksFrom l.fn.code l.fn.value l.fn.actor l.fn.place l.replay (drop l.reply-index l.fn.shown);
}
