use Rattle.mc_answers.proofs.Refused.{Gives-weaker}
use Rattle.mc_answers.proofs.judge.judge_part.Goals as goal

pub returns : goal.returns
returns c = Gives-weaker _ _
    (λ output ended is. record {
      part = _;
      lines = _;
      stands = c.find_history-part.ensures;
      judged = rw c.in_ok-lines.ensures at (rw c.as_slice.ensures.value at is);
    })
    c.judge_text.result c.judge_text.ensures
