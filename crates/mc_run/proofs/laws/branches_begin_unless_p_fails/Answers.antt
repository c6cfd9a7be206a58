use Rattle.mc_run.proofs.NotBegun.{not_begun}
use Rattle.mc_run.proofs.laws.branches_begin_unless_p_fails.Goals as goal

pub returns : goal.returns
returns c = not_begun
