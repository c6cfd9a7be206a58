-- The line of the step that makes a note of the history of a step list.
use Rattle.std.specs.Prelude.{◌≡◌, ℕ, ◌+◌, ◌<◌, List, length, slice_index_or, take}
use Rattle.mc_code.specs.Code.{Code}
use Rattle.mc_core.specs.{Histories.record_of, Steps.IsFold, Worlds.Noted, Worlds.World, Worlds.new_world}
use Rattle.mc_answers.specs.WhyAnswers.{step_line}

-- the first `count` of the steps lead to a world whose history has `notes` notes
pub record LeavesNotes (c : Code) (steps : List Noted) (count notes : ℕ) : Type 0 where
  pub world : World
  pub skipped : ℕ
  pub fold : IsFold c new_world (take count steps) world skipped
  pub noted : length (record_of c world) ≡ notes

-- the step at this index makes the note at this place of the history: the steps before it leave `place` notes, and with it one more
abbrev pub MakesNote : Code → List Noted → ℕ → ℕ → Type 0
MakesNote c steps place index = LeavesNotes c steps index place × LeavesNotes c steps (index + 1) (place + 1)

-- for each note of the world's history the step that makes it
pub record AreMadeBy (c : Code) (steps : List Noted) (w : World) (makers : List ℕ) : Type 0 where
  pub count : length makers ≡ length (record_of c w)
  pub each : (place : ℕ) → place < length makers → MakesNote c steps place (slice_index_or makers place 0)

-- the line of a place of the history: that of the step that makes the note there
abbrev pub IsStepLine : Code → List Noted → ℕ → List ℕ → ℕ → ℕ → Type 0
IsStepLine c steps before list place line = (index : ℕ) × MakesNote c steps place index × (line ≡ step_line before list index)
