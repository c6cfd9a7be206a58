-- One run more: which is handed out.
use Rattle.std.proofs.Common.{◌≡◌, ◌∙◌, ℕ, Bool, true, false, not, List, [], ◌∷◌, ◌++◌, length, ap, refl, sym, Some}
use Rattle.std.proofs.lemmas.List.Elements.{All-cons, All-nil, All-pop, All-push, All-same}
use Rattle.std.proofs.{lemmas.Bool.false≢true, lemmas.List.append_assoc, lemmas.List.length-append}
use Rattle.std.specs.List.{All}
use Rattle.mc_code.specs.Code.{Code}
use Rattle.mc_command.specs.RepeatAnswers.{AreSettled, HandsOut, IsRightUnder, leaves_request, succeeds}
use Rattle.mc_command.specs.{RunAnswers.IsRightFor, declared.run.Played.Played}

pub one_right : (why : Bool) (code : Code) (run : Played) → IsRightFor why code run → All (IsRightFor why code) (run ∷ [])
one_right why code run right = All-cons (IsRightFor why code) run [] right (All-nil (IsRightFor why code))

pub one_right_under : (why : Bool) (code : Code) (run : Played) → IsRightUnder why code run → All (IsRightUnder why code) (run ∷ [])
one_right_under why code run right = All-cons (IsRightUnder why code) run [] right (All-nil (IsRightUnder why code))

pub settled_before : (all : List Played) (run : Played) → AreSettled (all ++ run ∷ []) → AreSettled all
settled_before all run settled = (All-pop (λ (one : Played). leaves_request one ≡ false) (all ++ run ∷ []) all (Some run) refl settled).0

pub last_settled : (all : List Played) (run : Played) → AreSettled (all ++ run ∷ []) → leaves_request run ≡ false
last_settled all run settled = (All-pop (λ (one : Played). leaves_request one ≡ false) (all ++ run ∷ []) all (Some run) refl settled).1

pub one_handed : (run : Played) → HandsOut (run ∷ []) 1 run
one_handed run = record {
  front = [];
  back = [];
  place = refl;
  counted = refl;
  earlier = All-nil _;
  last = λ _. refl;
}

-- the first whose status isn't 0 stays the first
pub kept : (all : List Played) (run : Played) (number : ℕ) (given : Played) → HandsOut all number given → succeeds given ≡ false
    → HandsOut (all ++ run ∷ []) number given
kept all run number given out failed = record {
  front = out.front;
  back = out.back ++ run ∷ [];
  place = ap (λ runs. runs ++ run ∷ []) out.place ∙ append_assoc out.front (given ∷ out.back) (run ∷ []);
  counted = out.counted;
  earlier = out.earlier;
  last = λ succeeded. absurd (false≢true (sym failed ∙ succeeded));
}

-- where there is none, the last one is handed out
pub replaced : (all : List Played) (run : Played) (number : ℕ) (given : Played) → HandsOut all number given → succeeds given ≡ true
    → (last : ℕ) → last ≡ length (all ++ run ∷ []) → HandsOut (all ++ run ∷ []) last run
replaced all run number given out succeeded last is = record {
  front = all;
  back = [];
  place = refl;
  counted = is ∙ length-append all (run ∷ []);
  earlier = All-same (λ other. succeeds other ≡ true) all (out.front ++ given ∷ [])
      (out.place ∙ ap (λ back. out.front ++ given ∷ back) (out.last succeeded))
      (All-push (λ other. succeeds other ≡ true) out.front given out.earlier succeeded);
  last = λ _. refl;
}

pub failed_by : (succeeded failed : Bool) → failed ≡ not succeeded → failed ≡ true → succeeded ≡ false
failed_by true failed is told = absurd (false≢true (sym is ∙ told))
failed_by false failed is told = refl

pub succeeded_by : (succeeded failed : Bool) → failed ≡ not succeeded → failed ≡ false → succeeded ≡ true
succeeded_by true failed is told = refl
succeeded_by false failed is told = absurd (false≢true (sym told ∙ is))
