use Rattle.mc_timeline_of.proofs.Agreeing.{agree}
use Rattle.mc_timeline_of.proofs.laws.verdicts_agree.Goals as goal

pub returns : goal.returns
returns c = agree
