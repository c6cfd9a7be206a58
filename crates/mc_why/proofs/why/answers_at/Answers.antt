use Rattle.std.proofs.Common.{◌+◌, subst}
use Rattle.mc_protocol.specs.declared.actor.Actor.{Actor}
use Rattle.mc_model.specs.{Notes.History, Sections.section_of}
use Rattle.mc_why.specs.{Cuts.cut, Answers.IsAnswerIn}
use Rattle.mc_why.proofs.Answers.{each_section}
use Rattle.mc_why.proofs.why.answers_at.Goals as goal

pub returns : goal.returns
returns c =
    let claim = c.args.explanation.now in
    let p = c.in_ok-answer_in.field-0 in
    let a = c.in_ok-answer_in-2.field-0 in
    let b = c.in_ok-answer_in-3.field-0 in
    let h = c.args.history.now in
    subst (λ (before : History). (section : Actor)
    → IsAnswerIn before.sections (cut (c.args.place + 1) h).sections claim section (section_of (record { p = p; a = a; b = b }) section))
    c.in_ok-before.ensures
    (subst (λ (up_to : History). (section : Actor)
    → IsAnswerIn c.in_ok-before.before.sections up_to.sections claim section (section_of (record { p = p; a = a; b = b }) section))
    c.in_ok-up_to.ensures
    (each_section c.in_ok-before.before.sections c.in_ok-up_to.up_to.sections claim p a b c.in_ok-answer_in.ensures c.in_ok-answer_in-2.ensures
    c.in_ok-answer_in-3.ensures))
