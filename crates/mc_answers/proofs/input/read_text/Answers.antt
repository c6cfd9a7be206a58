use Rattle.std.proofs.Common.{arith, length, ◌<◌}
use Rattle.mc_answers.specs.Answers.{INPUT_LIMIT}
use Rattle.mc_answers.proofs.Right.{longer_whole}
use Rattle.mc_answers.proofs.input.read_text.Goals as goal

pub returns-then-len-gt-INPUT_LIMIT-clause-too_long : goal.returns-then-len-gt-INPUT_LIMIT-clause-too_long
returns-then-len-gt-INPUT_LIMIT-clause-too_long g c =
    let text = c.in_ok-text.text.items in
    let long : INPUT_LIMIT < length text = omega (arith, c.if-len-gt-INPUT_LIMIT.true, c.len.ensures) in
    let whole = longer_whole _ _ text INPUT_LIMIT c.in_ok-text.ensures.read.1 long in
    (whole.0, whole.1, whole.2, c.in_ok-too_long.ensures.0, c.in_ok-too_long.ensures.1)
