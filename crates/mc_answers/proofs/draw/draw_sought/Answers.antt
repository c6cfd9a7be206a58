use Rattle.std.proofs.Common.{inr, refl}
use Rattle.mc_answers.proofs.Refused.{IfRefused-weaker}
use Rattle.mc_answers.specs.DrawAnswers as answers
use Rattle.mc_answers.specs.declared.status.Status.TheVariants as status
use Rattle.mc_answers.proofs.draw.draw_sought.Goals as goal

pub returns-in-None : goal.returns-in-None
returns-in-None c =
    IfRefused-weaker c.refuse_key.result _ (λ text. answers.Draws text status.Refused)
    (λ text is. inr (inr (_, (is, refl))))
    c.refuse_key.ensures
