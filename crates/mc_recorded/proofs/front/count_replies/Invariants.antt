use Rattle.std.specs.Prelude.{◌≤◌, length, take, drop}
use Rattle.mc_recorded.specs.Recorded.{StandAtFront}
use Rattle.mc_recorded.proofs.front.count_replies.Given as goal

abbrev pub invariant-replies : goal.invariant-replies
invariant-replies l = record {
  within : l.taken ≤ length l.got;
  stand : StandAtFront (take l.sent-index l.requests) l.got (drop l.taken l.got);
}
