use Rattle.std.proofs.Common.{inl, inr}
use Rattle.mc_answers.proofs.program.read_answer.Goals as goal

pub returns-in-Err-clause-right : goal.returns-in-Err-clause-right
returns-in-Err-clause-right g c =
    let found = rw c.in-Err.is at c.in_ok-text.ensures.too_long in
    (found.0, found.1, inr (inl (found.2, found.3, found.4)))
