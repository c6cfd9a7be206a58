use Rattle.std.proofs.Common.{◌≡◌, ◌∙◌, sym, true}
use Rattle.mc_model.specs.Notes.{is_same_section}
use Rattle.mc_command.proofs.MoreNotes.{after_own}
use Rattle.mc_command.proofs.overlap.is_outstanding_after.Goals as goal

pub returns-then-is_same : goal.returns-then-is_same
returns-then-is_same c earlier before =
    let noted = c.args.noted.now in
    let own : is_same_section c.args.branch noted.0 ≡ true = sym c.is_same.ensures ∙ c.if-is_same.true in
    c.is_begin.ensures ∙ sym (after_own c.args.branch earlier noted.0 noted.1 own)
