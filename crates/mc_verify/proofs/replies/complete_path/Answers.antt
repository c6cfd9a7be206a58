use Rattle.std.proofs.Common.{[], sym, subst}
use Rattle.mc_protocol.specs.declared.actor.Actor.TheVariants as actor
use Rattle.mc_code.specs.Paths.{stays}
use Rattle.mc_verify.specs.PrefixReplies.{AreInP}
use Rattle.mc_sound.proofs.Structured.{structured_some}
use Rattle.mc_verify.proofs.replies.complete_path.Goals as goal

pub moves-init : goal.moves-init
moves-init c = record {
  inside = structured_some c.args.code.now actor.P c.requires;
  along = ([], stays, c.new-replies.ensures.items);
}

pub moves-preserved : goal.moves-preserved
moves-preserved c = record {
  inside = c.in-Some.ensures.some.inside;
  along =
      subst (AreInP c.args.code.now c.in-Some.made.place) (sym c.in_ok-push_reply.ensures)
      (c.in-Some.ensures.some.leads c.moves.replies.items c.moves.invariant.along);
}
