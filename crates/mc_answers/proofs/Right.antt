-- The answer to what was read is right for the whole input.
use Rattle.std.proofs.Common.{Bool, true, false, arith, refl, ap, sym, inl, inr, ◌≡◌, ◌∙◌, ℕ, ◌<◌}
use Rattle.std.proofs.lemmas.Bool.{false≢true}
use Rattle.std.proofs.Common.{List, [], ◌++◌, length, Option, Some, None, length-append}
use Rattle.mc_answers.specs.{Answers.AnswersBy, Answers.AnswersWhole, Answers.IsWhole, Input.FailsBy, declared.input.InputFault.InputFault, Streams.Grows}
use Rattle.mc_answers.specs.{Streams.Loses, Streams.TakesAtMost, Writing.WritesRightly, Writing.out_of_memory_text, declared.status.Status.Status}
use Rattle.mc_answers.specs.declared.input.InputFault.TheVariants as fault
use Rattle.mc_answers.specs.declared.status.Status.TheVariants as status

-- what is done for a text
abbrev pub DoneBy : Type 1
DoneBy = List ℕ → List ℕ → Status → Type 0

-- an input that begins with a text longer than this is longer too
pub longer_whole : (left : Option (List ℕ)) (new : Option (List ℕ)) (text : List ℕ) (n : ℕ) → Loses left new text → n < length text
    → (whole : List ℕ) × IsWhole left whole × (n < length whole)
longer_whole None new text n lost long = (text, tt, long)
longer_whole (Some old) None text n lost long = absurd lost
longer_whole (Some old) (Some new) text n lost long =
    let lengths : length old ≡ length (text ++ new) = ap length lost in
    (old, refl, omega (arith, lengths, length-append text new))

-- there is a text that is the whole input, whatever is known of it
some_whole : (left : Option (List ℕ)) → (whole : List ℕ) × IsWhole left whole
some_whole None = ([], tt)
some_whole (Some old) = (old, refl)

-- an answer that is right for the whole input was written
pub answers_by : (right_for : DoneBy) (left : Option (List ℕ)) (old : Option (List ℕ)) (new : Option (List ℕ)) (ended : Status) (output : List ℕ)
    → ((whole : List ℕ) × IsWhole left whole × right_for whole output ended) → Grows old new output → AnswersBy right_for left old new ended
answers_by right_for left old new ended output found grows = record {
  text = found.0;
  whole = found.1;
  output = output;
  right = found.2;
  written = grows;
}

-- want of memory is an answer to any input
abbrev pub MayLackMemory : DoneBy → Type 0
MayLackMemory right_for = (text : List ℕ) → right_for text out_of_memory_text status.NoAnswer

pub out_of_memory_by : (right_for : DoneBy) (left : Option (List ℕ)) (old : Option (List ℕ)) (new : Option (List ℕ)) (ended : Status)
    → MayLackMemory right_for → Grows old new out_of_memory_text → ended ≡ status.NoAnswer → AnswersBy right_for left old new ended
out_of_memory_by right_for left old new ended may grows ended_is =
    let whole = some_whole left in
    answers_by right_for left old new ended out_of_memory_text (whole.0, whole.1, rw ended_is (may whole.0)) grows

-- ---- what was read and written

-- the answer to the input that was read was written, or the write failed
pub answer_written : {I O : Type 0} (left : I → Option (List ℕ)) (has_broken : I → Bool) (written : O → Option (List ℕ))
    (has_failed : O → Bool) (right_for : DoneBy) (most : ℕ) (input_old input_new : I) (old new : O) (text : List ℕ) (wanted ended : Status)
    → ((whole : List ℕ) × IsWhole (left input_old) whole × right_for whole text wanted)
    → has_broken input_new ≡ has_broken input_old → TakesAtMost most (left input_old) (left input_new)
    → (has_failed old ≡ false → has_failed new ≡ false → Grows (written old) (written new) text × (ended ≡ wanted))
    → (has_failed old ≡ false → has_failed new ≡ true → ended ≡ status.NoAnswer)
    → AnswersWhole left has_broken written has_failed right_for most input_old input_new old new ended
answer_written left has_broken written has_failed right_for most input_old input_new old new text wanted ended found whole taken grows broken = record {
  answered = λ input_before input_after before after. let all = grows before after in
      answers_by right_for _ _ _ ended text (found.0, found.1, rw all.1 found.2) all.0;
  broken_input = λ before after. absurd (false≢true (sym before ∙ (sym whole ∙ after)));
  broken_output = broken;
  taken = taken;
}

-- the input wasn't read or not answered, and that was written
pub fault_written : {I O : Type 0} (left : I → Option (List ℕ)) (has_broken : I → Bool) (written : O → Option (List ℕ))
    (has_failed : O → Bool) (right_for : DoneBy) (most : ℕ) (input_old input_new : I) (old new : O) (f : InputFault) (ended : Status)
    → MayLackMemory right_for
    → FailsBy (has_broken input_old) (has_broken input_new) f → TakesAtMost most (left input_old) (left input_new)
    → (f ≡ fault.Broken → new ≡ old)
    → (f ≡ fault.OutOfMemory → has_failed old ≡ false → has_failed new ≡ false → Grows (written old) (written new) out_of_memory_text)
    → ended ≡ status.NoAnswer
    → AnswersWhole left has_broken written has_failed right_for most input_old input_new old new ended
fault_written left has_broken written has_failed right_for most input_old input_new old new fault.Broken ended may fails taken same grows ended_is = record {
  answered = λ input_before input_after before after. absurd (false≢true (sym input_after ∙ fails));
  broken_input = λ before after. (ended_is, same refl);
  broken_output = λ before after. ended_is;
  taken = taken;
}
fault_written left has_broken written has_failed right_for most input_old input_new old new fault.OutOfMemory ended may fails taken same grows
    ended_is = record {
      answered = λ input_before input_after before after. out_of_memory_by right_for _ _ _ ended may (grows refl before after) ended_is;
      broken_input = λ before after. absurd (false≢true (sym before ∙ (sym fails ∙ after)));
      broken_output = λ before after. ended_is;
      taken = taken;
    }
