-- What `run` answers where a script is run repeatedly.
use Rattle.std.specs.Prelude.{◌≡◌, ◌⊎◌, ℕ, ◌+◌, ◌<◌, ◌≤◌, Bool, true, false, not, ◌&&◌, All, Option, Some, None, List, [], ◌∷◌, ◌++◌}
use Rattle.std.specs.Prelude.{length, codes, decimal, if◌then◌else◌}
use Rattle.mc_protocol.specs.Lines.{Word}
use Rattle.mc_model.specs.{History.are_answered, Notes.History}
use Rattle.mc_code.specs.Code.{Code}
use Rattle.mc_command.specs.RunAnswers.{IsRightFor, IsUnder, PlaysFor, Refuses, SpellsUnder, status_of, text_of}
use Rattle.mc_command.specs.{Totals.totals_line, Totals.totals_of, declared.run.Played.Played, declared.totals.Totals.Totals}
use Rattle.mc_answers.specs.{Statuses.is_success, Writing.out_of_memory_text, declared.status.Status.Status}
use Rattle.mc_cli.specs.declared.args.Repeat.{Repeat}
use Rattle.mc_command.specs.declared.run.Played.TheVariants as played
use Rattle.mc_answers.specs.declared.status.Status.TheVariants as status

-- the run's status is 0
abbrev pub succeeds : Played → Bool
succeeds given = is_success (status_of given)

-- of these runs the one with this number, counted from 1, is handed out: the first whose status isn't 0, or else the last
pub record HandsOut (runs : List Played) (number : ℕ) (given : Played) : Type 0 where
  pub front : List Played
  pub back : List Played
  pub place : runs ≡ front ++ given ∷ back
  pub counted : number ≡ length front + 1
  pub earlier : All (λ run. succeeds run ≡ true) front
  pub last : succeeds given ≡ true → back ≡ []

-- each request has a reply
abbrev pub is_answered : History → Bool
is_answered h = are_answered h.sections.p && (are_answered h.sections.a && are_answered h.sections.b)

-- the server may still act on a request of the run, as far as that is known
abbrev pub leaves_request : Played → Bool
leaves_request (played.Ended held h found told) = not (is_answered h)
leaves_request (played.NoConnection section) = false
leaves_request played.NotRun = true

-- none of the runs leaves a request on which the server may still act
abbrev pub AreSettled : List Played → Type 0
AreSettled runs = All (λ run. leaves_request run ≡ false) runs

-- the second code is sound, and the first one under some name
abbrev pub IsUnderSome : Code → Code → Type 0
IsUnderSome written code = (name : Word) × IsUnder name written code

-- the answer is right for sound code, or for it under some name
abbrev pub IsRightUnder : Bool → Code → Played → Type 0
IsRightUnder why code run = IsRightFor why code run ⊎ ((under : Code) × IsUnderSome code under × IsRightFor why under run)

-- Code that is run repeatedly comes to these totals, and this run is handed out. It is one of the code itself, and so are all runs, unless
-- one leaves a request on which the server may still act: later ones may be of the code under a name. There are at most as many runs as
-- are wanted. Unless runs go on after one whose status isn't 0, that is the last one. Where there is no time, there are as many as are
-- wanted, or such a run ended them, or one left a request.
pub record Comes (repeat : Repeat) (why : Bool) (code : Code) (number : ℕ) (given : Played) (totals : Totals) : Type 0 where
  pub runs : List Played
  pub right : All (IsRightUnder why code) runs
  pub own : AreSettled runs → All (IsRightFor why code) runs
  pub shown : IsRightFor why code given
  pub hands_out : HandsOut runs number given
  pub sums : totals ≡ totals_of runs
  pub few : (most : ℕ) → repeat.times ≡ Some most → 0 < most → length runs ≤ most
  pub ends : repeat.keep_going ≡ false → number ≡ length runs
  pub goes_on : repeat.time ≡ None → (most : ℕ) → repeat.times ≡ Some most → 0 < most
      → (length runs ≡ most) ⊎ (((repeat.keep_going ≡ false) × (succeeds given ≡ false)) ⊎ (AreSettled runs → ⊥))

-- the line that says which run follows, of how many where that is known
abbrev pub run_line : Option ℕ → ℕ → List ℕ
run_line None number = codes "run " ++ (decimal number ++ codes "\n")
run_line (Some times) number = codes "run " ++ (decimal number ++ (codes " of " ++ (decimal times ++ codes "\n")))

-- what is written of the run that is handed out
abbrev pub found_text : Option ℕ → ℕ → Played → List ℕ
found_text times number given = run_line times number ++ text_of given

-- and with the totals of all runs, which come last where runs go on after it
abbrev pub repeated_text : Repeat → ℕ → Totals → Played → List ℕ
repeated_text repeat number totals given = if repeat.keep_going
    then found_text repeat.times number given ++ totals_line totals
    else run_line repeat.times number ++ (totals_line totals ++ text_of given)

-- the line of the totals of runs to which the code comes, of which this one is handed out
abbrev pub AreTotals : Repeat → Bool → Code → ℕ → Played → List ℕ → Type 0
AreTotals repeat why code number given line = (totals : Totals) × Comes repeat why code number given totals × (line ≡ totals_line totals)

-- a run whose status isn't 0 was written, and memory ran out before the runs after it had ended
abbrev pub IsCutOff : Repeat → Bool → Code → List ℕ → Status → Type 0
IsCutOff repeat why code output ended = (number : ℕ) × (given : Played) × IsRightFor why code given
    × (repeat.keep_going ≡ true) × (succeeds given ≡ false)
    × (output ≡ found_text repeat.times number given ++ out_of_memory_text) × (ended ≡ status.NoAnswer)

-- for sound code, runs that it comes to are what is written, with the status of the one that is handed out
abbrev pub RepeatsFor : Repeat → Bool → Code → List ℕ → Status → Type 0
RepeatsFor repeat why code output ended =
    ((number : ℕ) × (given : Played) × (totals : Totals) × Comes repeat why code number given totals
    × (output ≡ repeated_text repeat number totals given) × (ended ≡ status_of given))
    ⊎ IsCutOff repeat why code output ended

-- for sound code, what is written of one run, or of repeated ones where the line asks for them
abbrev pub AnswersFor : Option Repeat → Bool → Code → List ℕ → Status → Type 0
AnswersFor None why code output ended = PlaysFor why code output ended
AnswersFor (Some repeat) why code output ended = RepeatsFor repeat why code output ended

-- the same of the code that the text spells, or of it under the name; or what is written where no code is played
abbrev pub Runs : Option Repeat → Bool → Option Word → List ℕ → List ℕ → Status → Type 0
Runs repeat why name text output ended =
    ((code : Code) × SpellsUnder name text code × AnswersFor repeat why code output ended) ⊎ Refuses why name text output ended
