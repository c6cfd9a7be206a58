use Rattle.mc_script_text.proofs.WithoutStep.{steps_leave}
use Rattle.mc_script_text.proofs.without_laws.steps_leave_the_other_lines.Goals as goal

pub returns : goal.returns
returns c = steps_leave
