-- What `run` answers to a script.
use Rattle.std.specs.Prelude.{◌≡◌, ◌⊎◌, ℕ, Bool, true, false, Option, Some, None, List, [], ◌++◌, codes, Ok, Err}
use Rattle.mc_protocol.specs.{Lines.Word, Words.actor_word}
use Rattle.mc_model.specs.Notes.{History}
use Rattle.mc_code.specs.Code.{Code}
use Rattle.mc_sound.specs.Faults.{IsSound}
use Rattle.mc_core.specs.Held.{Held}
use Rattle.mc_history.specs.PrintedHistory.{history_text}
use Rattle.mc_explain.specs.declared.verdict.Verdict.{Verdict}
use Rattle.mc_run.specs.Agreement.{LaneRecords}
use Rattle.mc_trial.specs.Judged.{IsJudged}
use Rattle.mc_generate.specs.CodesUnder.{IsPutFault, code_under}
use Rattle.mc_generate.specs.declared.naming.PutFault.TheVariants as put_fault
use Rattle.mc_answers.specs.Loading.{IsScriptRefusal, SaysUnsound, Spells}
use Rattle.mc_answers.specs.{Endings.endings_text, Endings.run_status, Verdicts.verdict_text, WhyAnswers.IsWhy, WhyAnswers.printed_line}
use Rattle.mc_answers.specs.{declared.refusal.Unanswered.Unanswered, declared.status.Status.Status}
use Rattle.mc_answers.specs.declared.refusal.Unanswered.TheVariants as unanswered
use Rattle.mc_command.specs.{declared.run.Played.Played, declared.target_code.Unplayed.Unplayed}
use Rattle.mc_command.specs.declared.run.Played.TheVariants as played
use Rattle.mc_command.specs.declared.target_code.Unplayed.TheVariants as unplayed
use Rattle.mc_answers.specs.declared.status.Status.TheVariants as status

-- the code that is played of this one: itself, or it under a name
abbrev pub played_code : Option Word → Code → Code
played_code None code = code
played_code (Some name) code = code_under name code

-- the text spells a script, whose code is sound; it, or it under the name, is this code, which is sound too
pub record SpellsUnder (name : Option Word) (text : List ℕ) (code : Code) : Type 0 where
  pub written : Code
  pub spelled : Spells text written
  pub under : code ≡ played_code name written
  pub sound : IsSound code

-- the code is sound, and the other one under the name
abbrev pub IsUnder : Word → Code → Code → Type 0
IsUnder name written code = (code ≡ code_under name written) × IsSound code

-- What came of a run of this code: there are records of three lanes with which it was judged. That these are the records of
-- connections to the server isn't said: a run that was made up has such records too.
abbrev pub IsRun : Code → Held → History → Verdict → Type 0
IsRun code held h found = (lanes : LaneRecords) × IsJudged code held lanes h found

-- the answer is right for sound code; why nothing explains the history of its run is said where `why` asks for it
abbrev pub IsRightFor : Bool → Code → Played → Type 0
IsRightFor why code (played.Ended held h found reasons) = IsRun code held h found × IsWhy why printed_line h found reasons.items
IsRightFor why code (played.NoConnection section) = Unit {0}
IsRightFor why code played.NotRun = Unit {0}

-- ---- why no code is played

-- the code of the text's script is sound, and under the name a key becomes too long
abbrev pub HasLongKey : Option Word → List ℕ → Type 0
HasLongKey None text = ⊥
HasLongKey (Some name) text =
    (written : Code) × (index : ℕ) × Spells text written × IsPutFault name written.keys (put_fault.KeyTooLong index)

-- the code of the text's script is sound, and that under the name isn't, as the refusal says
abbrev pub IsNameRefusal : Bool → Option Word → List ℕ → List ℕ → Type 0
IsNameRefusal why None text refusal = ⊥
IsNameRefusal why (Some name) text refusal = (written : Code) × Spells text written × SaysUnsound (code_under name written) why refusal

-- the text is refused, or its code under the name is; or under the name a key becomes too long, and nothing is written
abbrev pub Refuses : Bool → Option Word → List ℕ → List ℕ → Status → Type 0
Refuses why name text output ended =
    ((IsScriptRefusal why text output ⊎ IsNameRefusal why name text output) × (ended ≡ status.Refused))
    ⊎ (HasLongKey name text × (output ≡ []) × (ended ≡ status.WrongLine))

-- ---- what is written

-- what is written of a run: how its sections ended, the verdict, why nothing explains the history, where that is asked, and the history
abbrev pub ended_text : Held → History → Verdict → List ℕ → List ℕ
ended_text held h found reasons = endings_text held.endings ++ (verdict_text found ++ (reasons ++ history_text h))

-- what is written for an answer
abbrev pub text_of : Played → List ℕ
text_of (played.Ended held h found reasons) = ended_text held h found reasons.items
text_of (played.NoConnection section) = codes "no connection " ++ (actor_word section ++ codes "\n")
text_of played.NotRun = codes "not run\n"

-- the exit status of an answer
abbrev pub status_of : Played → Status
status_of (played.Ended held h found reasons) = run_status held.endings found
status_of (played.NoConnection section) = status.NoAnswer
status_of played.NotRun = status.NoAnswer

-- for sound code, a run that is right is what is written, with its status
abbrev pub PlaysFor : Bool → Code → List ℕ → Status → Type 0
PlaysFor why code output ended = (given : Played) × IsRightFor why code given × (output ≡ text_of given) × (ended ≡ status_of given)

-- ---- parts that private clauses cite

abbrev pub unplayed_by : Unanswered → Unplayed
unplayed_by (unanswered.Refused text) = unplayed.Refused text
unplayed_by unanswered.OutOfMemory = unplayed.OutOfMemory

-- why code isn't played under a name
abbrev pub IsUnput : Word → Code → Unplayed → Type 0
IsUnput name written (unplayed.Refused text) = (why : Bool) → SaysUnsound (code_under name written) why text.items
IsUnput name written (unplayed.KeyTooLong told) = (index : ℕ) × IsPutFault name written.keys (put_fault.KeyTooLong index)
IsUnput name written unplayed.OutOfMemory = Unit {0}

-- why no code of a text is played
abbrev pub IsUnplayed : Bool → Option Word → List ℕ → Unplayed → Type 0
IsUnplayed why name text (unplayed.Refused output) = IsScriptRefusal why text output.items ⊎ IsNameRefusal why name text output.items
IsUnplayed why name text (unplayed.KeyTooLong told) = HasLongKey name text
IsUnplayed why name text unplayed.OutOfMemory = Unit {0}
