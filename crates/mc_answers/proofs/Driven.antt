-- What steps came to is a trial, and the line of each note of its history is that of a step.
use Rattle.std.proofs.Common.{◌≡◌, ◌<◌, Bool, true, false, ℕ, List, length, refl}
use Rattle.std.specs.Prelude.{slice_index_or}
use Rattle.mc_model.specs.Notes.{History}
use Rattle.mc_code.specs.Code.{Code}
use Rattle.mc_core.specs.Histories.{history_of, record_of}
use Rattle.mc_core.specs.{Held.Held, Held.IsHeldBy, Safety.IsSafe, Steps.IsFold, Worlds.Noted, Worlds.World, Worlds.new_world}
use Rattle.mc_explain.specs.{Verdicts.IsStated, Verdicts.IsTrueOf, declared.verdict.Verdict.Verdict}
use Rattle.mc_explain.specs.declared.verdict.Verdict.TheVariants as verdict
use Rattle.mc_why.specs.{Causes.IsFoundOf, Causes.place_of, Cuts.place_count, declared.cause.Finding.Finding}
use Rattle.mc_why.specs.declared.cause.Finding.TheVariants as finding
use Rattle.mc_answers.specs.{DriveAnswers.IsDriven, StepLines.AreMadeBy, StepLines.IsStepLine, WhyAnswers.IsWhy, WhyAnswers.IsWhyBy, WhyAnswers.step_line}

-- what is found has a place of the history
place_within : (h : History) (found : Finding) → IsFoundOf h found → place_of found < place_count h
place_within h (finding.Cause cause) is = is.0.within
place_within h (finding.Undecided place) is = is.1

-- the line of a place by the makers of the notes
abbrev line_by : ℕ → List ℕ → List ℕ → ℕ → ℕ
line_by before list makers place = step_line before list (slice_index_or makers place 0)

-- it is that of the step that makes the note
step_lines : (why : Bool) (code : Code) (steps : List Noted) (before : ℕ) (list : List ℕ) (w : World) (makers : List ℕ) (found : Verdict)
    (reasons : List ℕ) → AreMadeBy code steps w makers → IsWhy why (line_by before list makers) (history_of code w) found reasons
    → IsWhyBy why (IsStepLine code steps before list) (history_of code w) found reasons
step_lines false code steps before list w makers found reasons made is = is
step_lines true code steps before list w makers (verdict.Explained claim) reasons made is = is
step_lines true code steps before list w makers verdict.Undecided reasons made is = is
step_lines true code steps before list w makers verdict.Unexplained reasons made (cause, line, line_is, found, text) =
    let within : place_of cause < length (record_of code w) = place_within (history_of code w) cause found in
    (cause, line, (slice_index_or makers (place_of cause) 0, made.each (place_of cause) (rw made.count within), line_is), found, text)

pub driven : (why : Bool) (code : Code) (steps : List Noted) (before : ℕ) (list : List ℕ) (held : Held) (skipped : ℕ) (h : History)
    (found : Verdict) (reasons makers : List ℕ)
    → IsHeldBy code held → IsFold code new_world steps held.world skipped → IsSafe code held.world
    → AreMadeBy code steps held.world makers → h ≡ history_of code held.world → IsTrueOf h found → IsStated h found
    → IsWhy why (line_by before list makers) h found reasons
    → IsDriven why code steps before list held skipped found reasons
driven why code steps before list held skipped h found reasons makers held_by fold safe made same is_true stated is_why = record {
  trial = record {
    fold = fold;
    noted = safe.noted;
    right = safe.runs;
    admitted = safe.admitted;
    budgets = safe.budgets;
    silent = safe.silent;
    explained = rw same at is_true;
  };
  held_by = held_by;
  stated = rw same at stated;
  reasons_are = step_lines why code steps before list held.world makers found reasons made (rw same at is_why);
}
