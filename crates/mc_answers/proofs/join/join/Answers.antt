use Rattle.std.proofs.Common.{inr, refl}
use Rattle.mc_answers.proofs.join.join.Goals as goal

pub returns-in_ok-refusal-in-Refused : goal.returns-in_ok-refusal-in-Refused
returns-in_ok-refusal-in-Refused c = inr (c.in-Refused.fault.kind, c.in-Refused.fault.line, c.in_ok-refusal-in-Refused.ensures, refl)
