-- Laws of folds, whatever the code and the events are.
use Rattle.std.specs.Prelude.{◌≡◌, ℕ, ◌+◌, ◌*◌, ◌≤◌, true, List, length}
use Rattle.mc_protocol.specs.declared.{actor.Actor.Actor, limits.TheConstants.REQUESTS_LIMIT}
use Rattle.mc_code.specs.Code.{Code, IsCode}
use Rattle.mc_model.specs.Notes.{is_record, sections_in}
use Rattle.mc_sound.specs.Faults.{IsSound}
use Rattle.mc_core.specs.Histories.{record_of, sections_of}
use Rattle.mc_core.specs.Worlds.{World, Noted, new_world, log_of, IsEnding}
use Rattle.mc_core.specs.{declared.ending.Ending.Ending, Logs.calls_in, Safety.AreSmall, Safety.IsSafe, Steps.IsFold, Steps.IsWorldOf}

-- the fold of the notes of a fold is the same world, and none of them is refused
abbrev pub FoldsRepeat : Type 0
FoldsRepeat = (c : Code) (events : List Noted) (w : World) (skipped : ℕ) → IsFold c new_world events w skipped → IsWorldOf c w

-- a list of events has one fold, and as many refused events each time
abbrev pub FoldsOnce : Type 0
FoldsOnce = (c : Code) (w v v' : World) (events : List Noted) (skipped skipped' : ℕ)
    → IsFold c w events v skipped → IsFold c w events v' skipped' → (v ≡ v') × (skipped ≡ skipped')

-- a section of a fold stands in one way
abbrev pub EndsOnce : Type 0
EndsOnce = (c : Code) (w : World) (who : Actor) (ending other : Ending)
    → IsEnding c w who ending → IsEnding c w who other → ending ≡ other

-- a fold in sound code is safe
abbrev pub FoldsAreSafe : Type 0
FoldsAreSafe = (c : Code) (events : List Noted) (w : World) (skipped : ℕ) → IsSound c
    → IsFold c new_world events w skipped → AreSmall w.notes → IsSafe c w

-- it has no more calls and notes than this, whatever the events are
pub record IsWithinRoom (w : World) : Type 0 where
  pub calls : (who : Actor) → length (calls_in (log_of w who)) ≤ REQUESTS_LIMIT
  pub notes : length w.notes ≤ 3 * (2 * REQUESTS_LIMIT + 1)

abbrev pub FoldsAreWithinRoom : Type 0
FoldsAreWithinRoom = (c : Code) (events : List Noted) (w : World) (skipped : ℕ) → IsCode c → IsSound c
    → IsFold c new_world events w skipped → IsWithinRoom w

-- what is recorded of it spells its sections, and keeps the rules of a history
pub record IsRecorded (c : Code) (w : World) : Type 0 where
  pub sections : sections_in (record_of c w) ≡ sections_of c w
  pub rules : is_record (record_of c w) ≡ true

abbrev pub FoldsAreRecorded : Type 0
FoldsAreRecorded = (c : Code) (events : List Noted) (w : World) (skipped : ℕ) → IsCode c → IsSound c
    → IsFold c new_world events w skipped → IsRecorded c w
