use Rattle.std.proofs.Common.{inl, inr, refl}
use Rattle.mc_answers.proofs.Refused.{IfRefused-weaker}
use Rattle.mc_answers.specs.JudgeAnswers.{Judges}
use Rattle.mc_answers.specs.declared.status.Status.TheVariants as status
use Rattle.mc_answers.proofs.judge.judge.Goals as goal

pub returns : goal.returns
returns c =
    IfRefused-weaker c.refuse_history.result _ (λ text. Judges c.args.how c.args.text.now text status.Refused)
    (λ text is. inr (inr ((λ h claim spelled. c.in-Err.ensures.none is.0 (h, claim) spelled), (_, _, is.0, is.1), refl)))
    c.refuse_history.ensures
