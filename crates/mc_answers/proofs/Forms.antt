-- What has the status of a right answer is right in JSON.
use Rattle.std.proofs.Common.{◌≡◌, ℕ, List, Ok, Err, Result}
use Rattle.mc_answers.specs.declared.refusal.Unanswered.{Unanswered}
use Rattle.mc_answers.specs.{InJson.HasStatusOf, InJson.InJson, Refusing.Gives, declared.answer.Answer.Answer, declared.status.Status.Status}
use Rattle.mc_answers.specs.declared.refusal.Unanswered.TheVariants as unanswered
use Rattle.mc_answers.proofs.Refused.{Gives-weaker}

in-json : (P : List ℕ → Status → Type 0) (found : Result Answer Unanswered) → Gives P found
    → (output : List ℕ) (ended : Status) → HasStatusOf found output ended → InJson P output ended
in-json P (Ok answer) gives output ended same = (answer.output.items, rw same at gives)
in-json P (Err (unanswered.Refused text)) gives output ended same = (text.items, rw same at gives)
in-json P (Err unanswered.OutOfMemory) gives output ended same = absurd same

pub from-found : (P : List ℕ → Status → Type 0) (found : Result Answer Unanswered) → Gives P found
    → (result : Result Answer Unanswered) → Gives (HasStatusOf found) result → Gives (InJson P) result
from-found P found gives result is = Gives-weaker (HasStatusOf found) (InJson P) (in-json P found gives) result is
