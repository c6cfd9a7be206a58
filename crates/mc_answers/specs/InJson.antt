-- What is answered in JSON.
use Rattle.std.specs.Prelude.{◌≡◌, ℕ, Bool, true, false, List, Ok, Err, Result}
use Rattle.mc_answers.specs.{declared.answer.Answer.Answer, declared.refusal.Unanswered.Unanswered, declared.status.Status.Status}
use Rattle.mc_answers.specs.declared.refusal.Unanswered.TheVariants as unanswered
use Rattle.mc_answers.specs.declared.status.Status.TheVariants as status

-- JSON may have any bytes; the status with it is that of some text which is right
abbrev pub InJson : (List ℕ → Status → Type 0) → List ℕ → Status → Type 0
InJson right_for output ended = (text : List ℕ) × right_for text ended

-- in words, or in JSON
abbrev pub AnswersIn : Bool → (List ℕ → Status → Type 0) → List ℕ → Status → Type 0
AnswersIn false right_for = right_for
AnswersIn true right_for = InJson right_for

-- any text, with the status of what was found
abbrev pub HasStatusOf : Result Answer Unanswered → List ℕ → Status → Type 0
HasStatusOf (Ok answer) output ended = answer.status ≡ ended
HasStatusOf (Err (unanswered.Refused text)) output ended = status.Refused ≡ ended
HasStatusOf (Err unanswered.OutOfMemory) output ended = ⊥
