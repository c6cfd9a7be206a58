use Rattle.std.proofs.Common.{inr, refl}
use Rattle.mc_answers.proofs.Refused.{IfRefused-weaker}
use Rattle.mc_answers.specs.Judging.{JudgesNoKey}
use Rattle.mc_answers.specs.declared.status.Status.TheVariants as status
use Rattle.mc_answers.proofs.judge.judge_no_key.Goals as goal

pub returns-in-Err : goal.returns-in-Err
returns-in-Err c =
    IfRefused-weaker c.refuse_history.result _ (λ text. JudgesNoKey c.args.why c.args.key.now c.args.text.now text status.Refused)
    (λ text is. inr ((λ h claim spelled. c.in-Err.ensures.none is.0 (h, claim) spelled), (_, _, is.0, is.1), refl))
    c.refuse_history.ensures
