use Rattle.std.proofs.Common.{◌∙◌, ap, sym, take}
use Rattle.mc_protocol.specs.declared.actor.Actor.TheVariants as actor
use Rattle.mc_command.specs.Overlaps.{is_outstanding, overlaps}
use Rattle.mc_command.proofs.MoreNotes.{one_more_note, taken_more}
use Rattle.mc_command.proofs.overlap.overlaps.Goals as goal

pub notes-preserved : goal.notes-preserved
notes-preserved c =
    let earlier = take c.notes.noted-index c.args.notes.now in
    let more = taken_more c.args.notes.now c.notes.noted-index c.noted-item.result c.notes-test.true c.noted-item.is in
    let a = c.is_outstanding_after-a.ensures earlier c.notes.invariant.a in
    let b = c.is_outstanding_after-b.ensures earlier c.notes.invariant.b in
    record {
      a = a ∙ ap (is_outstanding actor.A) (sym more);
      b = b ∙ ap (is_outstanding actor.B) (sym more);
      found = c.is_found_or_both-found.ensures
          ∙ (one_more_note earlier c.noted-item.result c.notes.found _ _ c.notes.invariant.found a b ∙ ap overlaps (sym more));
    }
