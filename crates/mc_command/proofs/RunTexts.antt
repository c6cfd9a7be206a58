-- What repeated runs of a script come to, and what is written of them.
use Rattle.std.proofs.Common.{◌≡◌, ◌⊎◌, ◌∙◌, ◌++◌, ℕ, ◌<◌, ◌≤◌, Bool, true, false, cond, ap, inl, inr, subst, sym, List, length, Option, Some, None}
use Rattle.std.proofs.lemmas.Bool.{false≢true}
use Rattle.mc_code.specs.Code.{Code}
use Rattle.mc_answers.specs.Answers.{AnswersRightly, INPUT_LIMIT, IsAnswerBy, IsWhole}
use Rattle.mc_answers.specs.{Streams.TakesAtMost, Writing.WritesRightly, Writing.out_of_memory_text, declared.status.Status.Status}
use Rattle.mc_answers.specs.declared.status.Status.TheVariants as status
use Rattle.mc_cli.specs.declared.args.Repeat.{Repeat}
use Rattle.mc_command.specs.RepeatAnswers.{AreSettled, Comes, HandsOut, found_text, repeated_text, run_line, succeeds}
use Rattle.mc_command.specs.{RunAnswers.IsRightFor, RunAnswers.text_of, SoFar.AreFirst, SoFar.IsSoFar, Totals.totals_line, declared.repeating.Runs.Runs}
use Rattle.mc_command.specs.{declared.run.Played.Played, declared.totals.Totals.Totals}

goes_by : (enough : Type 0) (keep_going succeeded : Bool) (unsettled : Type 0) → enough ⊎ (succeeded ≡ false)
    → (keep_going ≡ false) ⊎ (succeeded ≡ true) → enough ⊎ (((keep_going ≡ false) × (succeeded ≡ false)) ⊎ unsettled)
goes_by enough keep_going succeeded unsettled (inl is) over = inl is
goes_by enough keep_going succeeded unsettled (inr failed) (inl stops) = inr (inl (stops, failed))
goes_by enough keep_going succeeded unsettled (inr failed) (inr ended) = absurd (false≢true (sym failed ∙ ended))

-- the first runs are all, where none follows them
pub comes_first : (repeat : Repeat) (why : Bool) (code : Code) (runs : Runs) → AreFirst repeat why code runs
    → (repeat.keep_going ≡ false) ⊎ (succeeds runs.played ≡ true) → Comes repeat why code runs.number runs.played runs.totals
comes_first repeat why code runs first over = record {
  runs = first.all;
  right = first.so_far.right;
  own = first.so_far.own;
  shown = first.so_far.shown;
  hands_out = first.so_far.hands_out;
  sums = first.so_far.totals;
  few = first.few;
  ends = λ stops. first.last ∙ ap (λ (t : Totals). t.runs) first.so_far.totals;
  goes_on = λ none most is some. goes_by _ _ _ _ (first.goes_on none most is some) over;
}

on_by : (enough cut unsettled : Type 0) → enough ⊎ unsettled → enough ⊎ (cut ⊎ unsettled)
on_by enough cut unsettled (inl is) = inl is
on_by enough cut unsettled (inr is) = inr (inr is)

-- runs that went on after one that is handed out
pub comes_on : (repeat : Repeat) (why : Bool) (code : Code) (runs first : Runs) (all : List Played) → IsSoFar why code all runs
    → runs.number ≡ first.number → runs.played ≡ first.played → repeat.keep_going ≡ true
    → ((most : ℕ) → repeat.times ≡ Some most → 0 < most → length all ≤ most)
    → (repeat.time ≡ None → (most : ℕ) → repeat.times ≡ Some most → 0 < most → (length all ≡ most) ⊎ (AreSettled all → ⊥))
    → Comes repeat why code first.number first.played runs.totals
comes_on repeat why code runs first all so number played keeps few goes = record {
  runs = all;
  right = so.right;
  own = so.own;
  shown = subst (λ p. IsRightFor why code p) played so.shown;
  hands_out = subst (λ n. HandsOut all n first.played) number (subst (λ p. HandsOut all runs.number p) played so.hands_out);
  sums = so.totals;
  few = few;
  ends = λ stops. absurd (false≢true (sym stops ∙ keeps));
  goes_on = λ none most is some. on_by _ _ _ (goes none most is some);
}

-- the totals follow the run that was found
pub found_then : (repeat : Repeat) (number : ℕ) (totals : Totals) (given : Played) (line : List ℕ) → repeat.keep_going ≡ true
    → line ≡ totals_line totals → found_text repeat.times number given ++ line ≡ repeated_text repeat number totals given
found_then repeat number totals given line keeps is =
    ap (λ l. found_text repeat.times number given ++ l) is
    ∙ sym (ap (λ (b : Bool). cond b (found_text repeat.times number given ++ totals_line totals)
    (run_line repeat.times number ++ (totals_line totals ++ text_of given))) keeps)

-- ---- the whole input

right_by : (does : List ℕ → List ℕ → Status → Type 0) (right_for : List ℕ → Status → Type 0) (text output : List ℕ) (ended : Status)
    → length text ≤ INPUT_LIMIT → ((out : List ℕ) (end : Status) → right_for out end → does text out end)
    → right_for output ended ⊎ ((output ≡ out_of_memory_text) × (ended ≡ status.NoAnswer)) → IsAnswerBy does text output ended
right_by does right_for text output ended short by (inl right) = inl (short, by output ended right)
right_by does right_for text output ended short by (inr none) = inr (inr none)

-- what is written of the code that was read is right for the input
pub code_written : {I O : Type 0} (left : I → Option (List ℕ)) (has_broken : I → Bool) (written : O → Option (List ℕ))
    (has_failed : O → Bool) (does : List ℕ → List ℕ → Status → Type 0) (right_for : List ℕ → Status → Type 0)
    (input_old input_new : I) (old new : O) (text : List ℕ) (ended : Status) → IsWhole (left input_old) text → length text ≤ INPUT_LIMIT
    → ((out : List ℕ) (end : Status) → right_for out end → does text out end)
    → has_broken input_new ≡ has_broken input_old → TakesAtMost 1048577 (left input_old) (left input_new)
    → WritesRightly written has_failed right_for old new ended
    → AnswersRightly left has_broken written has_failed does input_old input_new old new ended
code_written left has_broken written has_failed does right_for input_old input_new old new text ended whole short by same taken writes = record {
  answered = λ input_before input_after before after. let found = writes.answered before after in
      record {
        text = text;
        whole = whole;
        output = found.output;
        right = right_by does right_for text found.output ended short by found.right;
        written = found.written;
      };
  broken_input = λ before after. absurd (false≢true (sym before ∙ (sym same ∙ after)));
  broken_output = writes.broken;
  taken = taken;
}
