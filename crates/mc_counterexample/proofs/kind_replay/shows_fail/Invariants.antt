use Rattle.std.proofs.Common.{◌≡◌, ◌↔◌, ◌<◌, true, false, drop, length}
use Rattle.mc_code.specs.Code.{instructions_in}
use Rattle.mc_counterexample.specs.{KindReplays.section_in, KindReplays.ShowsFail, KindReplays.FailsFrom, Replays.is_branch}
use Rattle.mc_counterexample.proofs.kind_replay.shows_fail.Given as goal

abbrev pub invariant-replies : goal.invariant-replies
invariant-replies l = record {
  inside : l.replay.place < length (instructions_in l.fn.code (section_in l.replay.begun l.fn.actor));
  branch : l.replay.begun ≡ false → is_branch l.fn.actor ≡ true;
  left : ShowsFail l.fn.code l.fn.kind l.fn.actor l.fn.place l.fn.shown
      ↔ FailsFrom l.fn.code l.fn.kind l.fn.actor l.fn.place l.replay (drop l.reply-index l.fn.shown);
}
