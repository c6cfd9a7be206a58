-- Agreement: what was noted of three sections is what the lanes that carried their calls recorded.
use Rattle.std.specs.Prelude.{◌≡◌, ◌≢◌, Option, Some, None, List}
use Rattle.mc_protocol.specs.{Sections.section_of, declared.actor.Actor.Actor, declared.sections.Sections.Sections}
use Rattle.mc_code.specs.Code.{Code}
use Rattle.mc_model.specs.{Notes.History, declared.sent.Sent.Sent}
use Rattle.mc_core.specs.declared.ending.Ending.TheVariants as ending
use Rattle.mc_core.specs.Worlds.{World, log_of, IsEnding}
use Rattle.mc_core.specs.{Held.Held, Held.IsHeldBy, Histories.sent_in, Histories.history_of, Steps.IsWorldOf}
use Rattle.mc_lane.specs.Lanes.{LaneRecord}
use Rattle.mc_recorded.specs.Recorded.{IsRecordedBy}

-- the lane of each section
abbrev pub LaneRecords : Type 0
LaneRecords = Sections LaneRecord

-- what was noted of each section is what its lane recorded
abbrev pub AreRecorded : Code → World → LaneRecords → Type 0
AreRecorded c w lanes = (who : Actor) → IsRecordedBy (sent_in c (log_of w who)) (log_of w who).fault (section_of lanes who)

-- World, notes and lanes agree under this code: the world is the fold of its notes, of which none is refused; no section goes
-- on; and each lane recorded what was noted of its section.
pub record Agree (c : Code) (w : World) (lanes : LaneRecords) : Type 0 where
  pub fold : IsWorldOf c w
  pub over : (who : Actor) → IsEnding c w who ending.Running → ⊥
  pub recorded : AreRecorded c w lanes

-- the fold of the notes with its history where they agree, and none where they don't
abbrev pub FindsAgreed : Code → World → LaneRecords → Option (Held × History) → Type 0
FindsAgreed c w lanes None = Agree c w lanes → ⊥
FindsAgreed c w lanes (Some found) =
    Agree c w lanes × (found.0.world ≡ w) × IsHeldBy c found.0 × (found.1 ≡ history_of c found.0.world)

-- the section doesn't go on, and these are its requests, which its lane recorded
abbrev pub AgreesIn : Held → Sections (List Sent) → LaneRecords → Actor → Type 0
AgreesIn held requests lanes who =
    (section_of held.endings who ≢ ending.Running)
    × IsRecordedBy (section_of requests who) (log_of held.world who).fault (section_of lanes who)
