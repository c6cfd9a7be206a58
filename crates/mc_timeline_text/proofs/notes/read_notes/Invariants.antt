use Rattle.std.proofs.Common.{◌↔◌, length}
use Rattle.mc_history.specs.Series.{Series}
use Rattle.mc_timeline.specs.Rules.{IsTimeline}
use Rattle.mc_timeline_text.specs.{TimelineTexts.Spelled, TimelineParts.notes, TimelineParts.AfterNotes, TimelineParts.SpellsNotes}
use Rattle.mc_timeline_text.proofs.notes.read_notes.Given as goal

abbrev pub invariant-noting : goal.invariant-noting
invariant-noting l =
    ((s : Spelled) → Series notes (AfterNotes s) l.builder l.lines.words ↔ SpellsNotes l.initial.lines.words s) × IsTimeline l.builder

abbrev pub decreases-noting : goal.decreases-noting
decreases-noting l = length l.lines.words
