use Rattle.std.proofs.Common.{◌∙◌}
use Rattle.mc_history.proofs.step_text.parse_steps.Goals as goal

pub returns-in-Err-clause-none : goal.returns-in-Err-clause-none
returns-in-Err-clause-none c = λ real. c.in-Err.ensures.none (λ e. real (c.counted_from.ensures.kind ∙ e))
