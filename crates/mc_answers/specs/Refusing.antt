-- Why an input has no other answer than its refusal.
use Rattle.std.specs.Prelude.{◌≡◌, ℕ, Bool, List, ◌++◌, Ok, Err, Result}
use Rattle.mc_hints.specs.Refusals.{IsHint}
use Rattle.mc_answers.specs.{declared.answer.Answer.Answer, declared.refusal.Unanswered.Unanswered, declared.status.Status.Status}
use Rattle.mc_answers.specs.declared.refusal.Unanswered.TheVariants as unanswered
use Rattle.mc_answers.specs.declared.status.Status.TheVariants as status

-- the text is this refusal with what more is said of it, if `why` asks for that
abbrev pub IsRefusal : Bool → List ℕ → List ℕ → Type 0
IsRefusal why refusal text = (hint : List ℕ) × IsHint why hint × (text ≡ refusal ++ hint)

-- where the input is refused, the text is right
abbrev pub IfRefused : Unanswered → (List ℕ → Type 0) → Type 0
IfRefused (unanswered.Refused text) IsRight = IsRight text.items
IfRefused unanswered.OutOfMemory IsRight = Unit {0}

-- what is answered is right: a refusal is an answer too, with its status
abbrev pub Gives : (List ℕ → Status → Type 0) → Result Answer Unanswered → Type 0
Gives right_for (Ok answer) = right_for answer.output.items answer.status
Gives right_for (Err fault) = IfRefused fault (λ text. right_for text status.Refused)
