use Rattle.std.proofs.Common.{inr, refl}
use Rattle.mc_answers.proofs.Refused.{IfRefused-weaker}
use Rattle.mc_answers.specs.TimelineAnswers.{JudgesWhole}
use Rattle.mc_answers.specs.declared.status.Status.TheVariants as status
use Rattle.mc_answers.proofs.timeline.judge_whole.Goals as goal

pub returns : goal.returns
returns c =
    IfRefused-weaker c.refuse_history.result _ (λ text. JudgesWhole c.args.args.now c.args.text.now text status.Refused)
    (λ text is. inr (inr ((λ notes claim spelled. c.in-Err.ensures.none is.0 (notes, claim) spelled), (_, _, is.0, is.1), refl)))
    c.refuse_history.ensures
