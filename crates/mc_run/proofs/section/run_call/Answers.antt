use Rattle.mc_run.specs.Running.{none}
use Rattle.mc_run.proofs.Grown.{grew_by}
use Rattle.mc_run.proofs.section.run_call.Goals as goal

-- nothing was called
pub returns-then-not-begins : goal.returns-then-not-begins
returns-then-not-begins g c = none

pub returns : goal.returns
returns g c = grew_by _ _ _ _ c.carry-event.ensures.comes
