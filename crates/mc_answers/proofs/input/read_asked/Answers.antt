use Rattle.mc_answers.proofs.input.read_asked.Goals as goal

pub returns-in-Judge-clause-too_long : goal.returns-in-Judge-clause-too_long
returns-in-Judge-clause-too_long g c = rw c.in-Judge.is c.read_history.ensures.too_long

pub returns-in-Draw-clause-too_long : goal.returns-in-Draw-clause-too_long
returns-in-Draw-clause-too_long g c = rw c.in-Draw.is c.read_history-in-Draw.ensures.too_long

pub returns-in-Convert-clause-too_long : goal.returns-in-Convert-clause-too_long
returns-in-Convert-clause-too_long g c = rw c.in-Convert.is c.read_history-in-Convert.ensures.too_long
