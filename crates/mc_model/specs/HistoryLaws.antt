-- What follows from the rules of a history.
use Rattle.std.specs.Prelude.{◌≡◌, ◌↔◌, ℕ, true, false, None}
use Rattle.mc_model.specs.History.{is_history, comes_late, fault_at, IsFirstFault}
use Rattle.mc_model.specs.{Types.Actor, Types.Sent, Types.HistoryKind, Sections.Sections, Sections.with_sent, Sections.before}

-- a history without its last request is a history
abbrev pub PrefixesAreHistories : Type 0
PrefixesAreHistories =
    (s : Sections) (who : Actor) (sent : Sent) → comes_late s who ≡ false → is_history (with_sent s who sent) ≡ true → is_history s ≡ true

-- so are the requests before any place of it
abbrev pub PlacesEndHistories : Type 0
PlacesEndHistories = (s : Sections) (who : Actor) (place : ℕ) → is_history s ≡ true → is_history (before s who place) ≡ true

-- a request has no fault exactly if it is not late and the sections with it are a history
abbrev pub FaultlessMakeHistories : Type 0
FaultlessMakeHistories =
    (s : Sections) (who : Actor) (sent : Sent)
    → (fault_at s who sent ≡ None) ↔ ((comes_late s who ≡ false) × (is_history (with_sent s who sent) ≡ true))

-- sections that have a first fault are no history
abbrev pub FaultyAreNoHistories : Type 0
FaultyAreNoHistories = (s : Sections) (kind : HistoryKind) (who : Actor) (place : ℕ) → IsFirstFault s kind who place → is_history s ≡ false

-- sections that are no history have a first fault
abbrev pub OthersHaveAFirstFault : Type 0
OthersHaveAFirstFault =
    (s : Sections) → is_history s ≡ false → (kind : HistoryKind) × (who : Actor) × (place : ℕ) × IsFirstFault s kind who place

-- and only one
abbrev pub FirstFaultsAreOne : Type 0
FirstFaultsAreOne =
    (s : Sections) (kind other : HistoryKind) (who whose : Actor) (place elsewhere : ℕ) → IsFirstFault s kind who place
    → IsFirstFault s other whose elsewhere
    → (kind ≡ other) × (who ≡ whose) × (place ≡ elsewhere)
