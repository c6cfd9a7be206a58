use Rattle.std.proofs.Common.{◌≡◌, None, Some, List, [], ap, subst, sym, take, ◌∙◌}
use Rattle.mc_model.specs.declared.note.Note.{Note}
use Rattle.mc_timeline.specs.{Rules.fault_of, Timelines.ClientNote}
use Rattle.mc_timeline_why.proofs.Fronts.{memory_alone, no_fault}
use Rattle.mc_timeline_why.proofs.cutting.timeline_of.Goals as goal

pub want_of_memory-requires : goal.want_of_memory-requires
want_of_memory-requires c =
    let notes = c.args.notes.now in
    let i = c.notes.client-index in
    let x : ClientNote = c.notes-item.result in
    let here : fault_of (take i notes) x ≡ None =
    subst (λ (y : ClientNote). fault_of (take i notes) y ≡ None) (sym c.notes-item.is) (no_fault [] notes i x c.requires c.notes-test.true) in
    let fine : fault_of c.notes.builder x ≡ None = subst (λ (l : List ClientNote). fault_of l x ≡ None) (sym c.notes.invariant) here in
    memory_alone c.in-Err.kind
    (λ other.
    let clash : Some c.in-Err.kind ≡ None = sym (c.in-Err.ensures.fault other)
    ∙ ap (λ (n : Note). fault_of c.notes.builder (x.0, n)) c.in_ok-copy.ensures ∙ fine in
    absurd (cc))
