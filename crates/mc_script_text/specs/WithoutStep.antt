-- The lines of a script less one of its steps.
use Rattle.std.specs.Prelude.{◌≡◌, ℕ, ◌+◌, ◌<◌, nat_le, Some, List, ◌∷◌, ◌++◌, length, slice_get}
use Rattle.std.specs.Prelude.{count_by}
use Rattle.mc_script_text.specs.{Values.Actor, Values.Words, Values.Step, PrintedScript.step_words, PrintedScript.section_lines}
use Rattle.mc_script.specs.{Script.Names, Script.Section, Script.Script, Script.section_of, WellFormed.IsScript, WithoutStep.without_step}

-- the second section has the lines of the first but for that of its step at this place, which has before it a line for
-- each step before it, and one for each label that doesn't stand after it
pub record HasOtherLines (names : Names) (s t : Section) (k : ℕ) : Type 0 where
  pub step : Step
  pub before : List Words
  pub after : List Words
  pub there : slice_get s.steps k ≡ Some step
  pub lines : section_lines names s ≡ before ++ step_words names s.labels step ∷ after
  pub others : section_lines names t ≡ before ++ after
  pub place : length before ≡ k + count_by (λ label. nat_le label.place k) s.labels

-- a script less a step has the lines of the script but for that of the step
abbrev pub StepsLeaveTheOtherLines : Type 0
StepsLeaveTheOtherLines =
    (s : Script) (actor : Actor) (k : ℕ) → IsScript s → k < length (section_of s actor).steps
    → HasOtherLines s.names (section_of s actor) (section_of (without_step s actor k) actor) k
