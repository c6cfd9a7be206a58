-- What is written of a round that was judged.
use Rattle.std.specs.Prelude.{◌≡◌, ℕ, ◌==◌, Bool, true, false, Option, Some, None}
use Rattle.std.specs.Prelude.{List, [], ◌∷◌, ◌++◌, length, codes, decimal, if◌then◌else◌}
use Rattle.std.specs.List.{flat_map}
use Rattle.mc_protocol.specs.{Faults.fault_name, Faults.fault_number, declared.fault.Fault.Fault}
use Rattle.mc_lane.specs.Lanes.{LaneRecord}
use Rattle.mc_timeline.specs.{Timelines.ClientNote, Timelines.restricted, TimelineText.timeline_text}
use Rattle.mc_linearize.specs.{Verdicts.IsTrueOfAll, Verdicts.IsUnexplained, declared.verdict.TimelineVerdict.TimelineVerdict}
use Rattle.mc_linearize.specs.declared.verdict.TimelineVerdict.TheVariants as verdict
use Rattle.mc_shrink.specs.Parts.{IsPartOf}
use Rattle.mc_stress.specs.declared.evidence.Evidence.{Evidence}
use Rattle.mc_stress.specs.{Agreement.Agree, declared.played.Played.Played, declared.settings.Judging.Judging}

-- the clients that failed
abbrev pub failed_by : ℕ → Option Fault → List (ℕ × Fault)
failed_by client None = []
failed_by client (Some f) = (client, f) ∷ []

abbrev pub failed_of : List (Played LaneRecord) → List (ℕ × Fault)
failed_of played = flat_map (λ p. failed_by p.client p.ended) played

-- the line of a client that failed
abbrev pub failed_line : ℕ × Fault → List ℕ
failed_line (client, f) =
    codes "client " ++ decimal client ++ codes " failed " ++ decimal (fault_number f) ++ codes " " ++ fault_name f ++ codes "\n"

abbrev pub failed_text : List (ℕ × Fault) → List ℕ
failed_text failed = flat_map failed_line failed

-- the key that a verdict names
abbrev pub named_key : TimelineVerdict → Option (List ℕ)
named_key (verdict.Explained claim) = None
named_key (verdict.Unexplained key) = Some key
named_key (verdict.Undecided key) = Some key

abbrev pub verdict_text : TimelineVerdict → List ℕ
verdict_text (verdict.Explained claim) = codes "explained\n"
verdict_text (verdict.Unexplained key) = codes "unexplained\nkey " ++ key ++ codes "\n"
verdict_text (verdict.Undecided key) = codes "undecided\nkey " ++ key ++ codes "\n"

-- the timeline of all keys, unless no client failed
abbrev pub unless_done : List (ℕ × Fault) → List ClientNote → List ℕ
unless_done failed notes = if length failed == 0 then [] else timeline_text notes

-- the notes without requests that changed nothing, as their replies say; nothing explains these if nothing explains all
pub record IsSmaller (notes part : List ClientNote) : Type 0 where
  pub is_part : IsPartOf notes part
  pub unexplained : IsUnexplained notes → IsUnexplained part

-- the requests on the key that are shown alone: all of them, or where that is wanted and nothing explains them, fewer
abbrev pub IsAlone : Bool → TimelineVerdict → List ℕ → List ClientNote → List ClientNote → Type 0
IsAlone true (verdict.Unexplained named) key notes shown = IsSmaller (restricted key notes) shown
IsAlone false (verdict.Unexplained named) key notes shown = shown ≡ restricted key notes
IsAlone smallest (verdict.Explained claim) key notes shown = shown ≡ restricted key notes
IsAlone smallest (verdict.Undecided named) key notes shown = shown ≡ restricted key notes

-- the requests that are shown: on all keys, or on the key alone
abbrev pub IsShownFor : Bool → Bool → TimelineVerdict → List ℕ → List ClientNote → List ClientNote → Type 0
IsShownFor true smallest v key notes shown = shown ≡ notes
IsShownFor false smallest v key notes shown = IsAlone smallest v key notes shown

-- the text of the timeline that is shown where a verdict names this key, or none: that of all keys, or of the key alone
abbrev pub IsShown : Judging → List (ℕ × Fault) → TimelineVerdict → Option (List ℕ) → List ClientNote → List ℕ → Type 0
IsShown how failed v None notes text = text ≡ unless_done failed notes
IsShown how failed v (Some key) notes text =
    (shown : List ClientNote) × IsShownFor how.whole how.smallest v key notes shown × (text ≡ timeline_text shown)

-- a line for each client that failed, the verdict, why nothing explains the round, if that is wanted, and the timeline
pub record IsEvidence (how : Judging) (notes : List ClientNote) (failed : List (ℕ × Fault)) (v : TimelineVerdict)
    (old new : List ℕ) : Type 0 where
  pub why : List ℕ
  pub shown : List ℕ
  pub is_shown : IsShown how failed v (named_key v) notes shown
  pub text : new ≡ old ++ failed_text failed ++ verdict_text v ++ why ++ shown

-- there is a verdict that is true of these notes, and the text is the evidence for it
pub record IsWritten (how : Judging) (notes : List ClientNote) (failed : List (ℕ × Fault)) (text : List ℕ) : Type 0 where
  pub verdict : TimelineVerdict
  pub is_true : IsTrueOfAll notes verdict
  pub evidence : IsEvidence how notes failed verdict [] text

-- The text is the evidence for a verdict that is true of a timeline, and what that tells of each client is what its lane recorded.
pub record IsJudged (how : Judging) (played : List (Played LaneRecord)) (text : List ℕ) : Type 0 where
  pub notes : List ClientNote
  pub agree : Agree notes played
  pub written : IsWritten how notes (failed_of played) text

-- it has the requests of these notes on its key alone, and nothing explains them, nor all of these notes
pub record IsEvidenceOf (notes : List ClientNote) (e : Evidence) : Type 0 where
  pub timeline : e.timeline ≡ restricted e.key notes
  pub alone : IsUnexplained e.timeline
  pub together : IsUnexplained notes

-- It is evidence of a timeline, and what that tells of each client is what its lane recorded.
pub record IsFound (played : List (Played LaneRecord)) (e : Evidence) : Type 0 where
  pub notes : List ClientNote
  pub agree : Agree notes played
  pub evidence : IsEvidenceOf notes e
