-- What `drive` answers to a text: a script, and after it a step list.
use Rattle.std.specs.Prelude.{◌≡◌, ◌≢◌, ◌⊎◌, ℕ, ◌+◌, ◌≤◌, Bool, List, ◌++◌, codes, decimal, drop, min, take}
use Rattle.mc_protocol.specs.{Lines.LAST_NUMBER, Lines.line_count, Lines.lines_of_text, declared.lines.Separator.TheVariants.Space}
use Rattle.mc_code.specs.Code.{Code}
use Rattle.mc_sound.specs.Faults.{IsSound}
use Rattle.mc_core.specs.{Held.Held, Held.IsHeldBy, Histories.history_of, Worlds.Noted}
use Rattle.mc_history.specs.{StepText.SpellsSteps, declared.steps_fault.StepsKind.StepsKind}
use Rattle.mc_history.specs.declared.steps_fault.StepsKind.TheVariants as steps_kind
use Rattle.mc_explain.specs.{Verdicts.IsStated, declared.verdict.Verdict.Verdict}
use Rattle.mc_trial.specs.Headline.{IsTrial}
use Rattle.mc_answers.specs.Loading.{IsFrontCode, IsFrontFault, SaysNoCode, SaysUnsound}
use Rattle.mc_answers.specs.{Endings.endings_text, Endings.run_status, Refusing.IsRefusal, StepLines.IsStepLine, Verdicts.verdict_text}
use Rattle.mc_answers.specs.{WhyAnswers.IsWhyBy, declared.status.Status.Status}
use Rattle.mc_hints.specs.Refusals.{steps_refusal}
use Rattle.mc_answers.specs.declared.status.Status.TheVariants as status

-- the text begins with a script of this many bytes, whose code is sound
pub record BeginsWith (text : List ℕ) (code : Code) (size : ℕ) : Type 0 where
  pub code_of_front : IsFrontCode text code size
  pub sound : IsSound code

-- how many lines stand before the step list, which begins after this many bytes
abbrev pub lines_before : List ℕ → ℕ → ℕ
lines_before text size = line_count (lines_of_text Space (take size text))

-- what is written for steps: how many were refused and skipped, how the sections ended, the verdict, and why nothing explains the
-- history, where that is asked
abbrev pub ended_text : Held → ℕ → Verdict → List ℕ → List ℕ
ended_text held skipped found reasons =
    codes "skipped " ++ (decimal skipped ++ (codes "\n" ++ (endings_text held.endings ++ (verdict_text found ++ reasons))))

-- what the steps came to in a trial of the code; why nothing explains their history is said where `why` asks for it, with the line of a
-- step in the text `list`, which `before` lines precede
pub record IsDriven (why : Bool) (code : Code) (steps : List Noted) (before : ℕ) (list : List ℕ) (held : Held) (skipped : ℕ)
    (found : Verdict) (reasons : List ℕ) : Type 0 where
  pub trial : IsTrial code steps held.world skipped found
  pub held_by : IsHeldBy code held
  pub stated : IsStated (history_of code held.world) found
  pub reasons_are : IsWhyBy why (IsStepLine code steps before list) (history_of code held.world) found reasons

-- that is written
abbrev pub Leads : Bool → Code → List Noted → ℕ → List ℕ → List ℕ → Status → Type 0
Leads why code steps before list output ended = (held : Held) × (skipped : ℕ) × (found : Verdict) × (reasons : List ℕ)
    × IsDriven why code steps before list held skipped found reasons
    × (output ≡ ended_text held skipped found reasons) × (ended ≡ run_status held.endings found)

-- the number of the first line after these
abbrev pub line_after : List ℕ → ℕ
line_after front = min (line_count (lines_of_text Space front) + 1) LAST_NUMBER

-- no step list follows the script; the fault is in a line after those of the script
pub record LacksSteps (text : List ℕ) (fault : StepsKind) (line : ℕ) : Type 0 where
  pub code : Code
  pub size : ℕ
  pub begins : BeginsWith text code size
  pub kind : fault ≢ steps_kind.OutOfMemory
  pub none : (steps : List Noted) → SpellsSteps (drop size text) steps → ⊥
  pub after : line_after (take size text) ≤ line

-- the text names this fault of a step list, with a hint where `why` asks for one
abbrev pub NamesFault : Bool → StepsKind → ℕ → List ℕ → Type 0
NamesFault why fault line text = (fault ≢ steps_kind.OutOfMemory) × IsRefusal why (steps_refusal fault line) text

-- the text begins with no script, or with one whose code isn't there or isn't sound, or no step list follows it, as the refusal says
abbrev pub IsDriveRefusal : Bool → List ℕ → List ℕ → Type 0
IsDriveRefusal why text refusal =
    SaysNoCode (IsFrontFault text) why refusal
    ⊎ (((code : Code) × (size : ℕ) × IsFrontCode text code size × SaysUnsound code why refusal)
    ⊎ ((fault : StepsKind) × (line : ℕ) × LacksSteps text fault line × IsRefusal why (steps_refusal fault line) refusal))

-- the code of the text is led through the steps after it; or the text is refused
abbrev pub Drives : Bool → List ℕ → List ℕ → Status → Type 0
Drives why text output ended =
    ((code : Code) × (size : ℕ) × (steps : List Noted) × BeginsWith text code size × SpellsSteps (drop size text) steps
    × Leads why code steps (lines_before text size) (drop size text) output ended)
    ⊎ (IsDriveRefusal why text output × (ended ≡ status.Refused))
