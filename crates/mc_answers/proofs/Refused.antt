-- Refusals that are right for more than one reason.
use Rattle.std.proofs.Common.{ℕ, List, Ok, Err, Result}
use Rattle.mc_answers.specs.declared.refusal.Unanswered.{Unanswered}
use Rattle.mc_answers.specs.{Refusing.Gives, Refusing.IfRefused, declared.answer.Answer.Answer, declared.status.Status.Status}
use Rattle.mc_answers.specs.declared.refusal.Unanswered.TheVariants as unanswered

pub IfRefused-weaker : (fault : Unanswered) (P Q : List ℕ → Type 0) → ((text : List ℕ) → P text → Q text) → IfRefused fault P
    → IfRefused fault Q
IfRefused-weaker (unanswered.Refused text) P Q weaker is = weaker text.items is
IfRefused-weaker unanswered.OutOfMemory P Q weaker is = tt

-- the same of what is answered
pub Gives-weaker : (P Q : List ℕ → Status → Type 0) → ((output : List ℕ) (ended : Status) → P output ended → Q output ended)
    → (found : Result Answer Unanswered) → Gives P found → Gives Q found
Gives-weaker P Q weaker (Ok answer) is = weaker answer.output.items answer.status is
Gives-weaker P Q weaker (Err fault) is = IfRefused-weaker fault _ _ (λ text. weaker text _) is
