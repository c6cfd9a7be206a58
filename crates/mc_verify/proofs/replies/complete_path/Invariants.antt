use Rattle.std.proofs.Common.{◌<◌, ◌-◌, length}
use Rattle.mc_protocol.specs.declared.actor.Actor.TheVariants as actor
use Rattle.mc_code.specs.Code.{instructions_in}
use Rattle.mc_verify.specs.PrefixReplies.{AreInP}
use Rattle.mc_verify.proofs.replies.complete_path.Given as goal

abbrev pub invariant-moves : goal.invariant-moves
invariant-moves l = record {
  inside : l.place < length (instructions_in l.code actor.P);
  along : AreInP l.code l.place l.replies.items;
}

abbrev pub decreases-moves : goal.decreases-moves
decreases-moves l = length (instructions_in l.code actor.P) - l.place
