-- What the two searches find out of the same notes.
use Rattle.std.specs.Prelude.{◌≡◌, true, List}
use Rattle.mc_model.specs.Notes.{Noted, is_record, with_notes}
use Rattle.mc_explain.specs.Verdicts as history
use Rattle.mc_explain.specs.declared.verdict.Verdict.{Verdict}
use Rattle.mc_explain.specs.declared.verdict.Verdict.TheVariants as verdict
use Rattle.mc_linearize.specs.Verdicts as timeline
use Rattle.mc_linearize.specs.declared.verdict.TimelineVerdict.{TimelineVerdict}
use Rattle.mc_linearize.specs.declared.verdict.TimelineVerdict.TheVariants as whole
use Rattle.mc_timeline_of.specs.SameNotes.{of_clients}

-- one says explained, and the other unexplained
abbrev pub Contradict : Verdict → TimelineVerdict → Type 0
Contradict (verdict.Explained claim) (whole.Unexplained key) = Unit {0}
Contradict verdict.Unexplained (whole.Explained claim) = Unit {0}
Contradict _ _ = ⊥

-- true verdicts on a history and on the timeline of the same notes don't contradict each other
abbrev pub VerdictsAgree : Type 0
VerdictsAgree =
    (notes : List Noted) (of_history : Verdict) (of_timeline : TimelineVerdict) → is_record notes ≡ true
    → history.IsTrueOf (with_notes notes) of_history → timeline.IsTrueOfAll (of_clients notes) of_timeline
    → Contradict of_history of_timeline → ⊥
