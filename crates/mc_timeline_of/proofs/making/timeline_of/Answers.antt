use Rattle.mc_timeline_of.proofs.Explaining.{explained_with}
use Rattle.mc_timeline_of.proofs.making.timeline_of.Goals as goal

pub returns-in_ok-timeline_of_notes-in-Some-clause-explained : goal.returns-in_ok-timeline_of_notes-in-Some-clause-explained
returns-in_ok-timeline_of_notes-in-Some-clause-explained c =
    explained_with c.args.history.now c.in-Some.notes.now c.in_ok-timeline_of_notes-in-Some.field-0 c.in-Some.ensures.history c.in-Some.ensures.notes
    c.in_ok-timeline_of_notes-in-Some.ensures
