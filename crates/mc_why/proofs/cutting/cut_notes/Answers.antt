use Rattle.std.proofs.Common.{◌≡◌, true, false, sym, ap, ◌∙◌}
use Rattle.mc_model.specs.Notes.{is_record}
use Rattle.mc_why.proofs.Cuts.{memory_alone, record_cut}
use Rattle.mc_why.proofs.cutting.cut_notes.Goals as goal

pub want_of_memory-requires : goal.want_of_memory-requires
want_of_memory-requires c =
    memory_alone c.in-Err.fault.0
    (λ other.
    let kept : is_record c.in_ok-copies.copies.items ≡ true = ap is_record (c.in_ok-copies.ensures ∙ c.first.ensures)
    ∙ record_cut c.args.count c.args.notes.now c.requires in
    let clash : true ≡ false = sym kept ∙ c.in-Err.ensures.none other in
    absurd (cc))
