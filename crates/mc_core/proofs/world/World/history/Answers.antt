use Rattle.std.proofs.Common.{◌≡◌, true, false, sym, ap, ◌∙◌}
use Rattle.mc_model.specs.Notes.{History, is_record, sections_in}
use Rattle.mc_core.proofs.HistorySteps.{folds_recorded}
use Rattle.mc_core.proofs.world.World.history.Goals as goal

pub want_of_memory-requires : goal.want_of_memory-requires
want_of_memory-requires c =
    let rules = (folds_recorded c.args.checked.now.code _ c.args.self.now.world 0 c.know_code.ensures.kept c.know_code.ensures.sound
    c.requires.held.fold).rules in
    λ other. let clash : true ≡ false = sym (ap is_record c.in_ok-notes.ensures ∙ rules) ∙ c.in-Err.ensures.none other in absurd (cc)

pub returns-in-Ok-clause-sections : goal.returns-in-Ok-clause-sections
returns-in-Ok-clause-sections c =
    let spelled = (folds_recorded c.args.checked.now.code _ c.args.self.now.world 0 c.know_code.ensures.kept c.know_code.ensures.sound
    c.requires.held.fold).sections in
    ap (λ (h : History). h.sections) c.in-Ok.ensures.ok ∙ ap sections_in c.in_ok-notes.ensures ∙ spelled
