use Rattle.std.proofs.Common.{◌++◌, drop}
use Rattle.mc_timeline.specs.Restrictions.{waiting_in}
use Rattle.mc_timeline.proofs.RestrictedNotes.{none_wait}
use Rattle.mc_shrink.specs.Parts.{part_after, part_of, stays_by}
use Rattle.mc_shrink.proofs.Remaining.{faultless_there}
use Rattle.mc_shrink.proofs.part.part_of.Goals as goal

pub notes-init : goal.notes-init
notes-init c = λ i. c.new-builder.ensures i ++ part_after (none_wait i) (stays_by c.args.goes.now) 0 (drop 0 c.args.notes.now)

pub returns-then-not-branch-clause-none : goal.returns-then-not-branch-clause-none
returns-then-not-branch-clause-none c = λ none timeline.
    let notes = c.args.notes.now in
    let goes = c.args.goes.now in
    c.in_ok-add.ensures.refused c.if-not-branch.true
    (faultless_there c.notes.builder (waiting_in c.notes.waiting) (stays_by goes) c.notes.place notes (part_of (stays_by goes) notes)
    c.index-notes-place.result c.stays.result c.notes-test.true c.index-notes-place.is c.stays.ensures
    c.note_stays.result c.note_stays.ensures.is c.if-note_stays.true c.notes.invariant timeline)
