use Rattle.mc_why.proofs.Cuts.{whole}
use Rattle.mc_why.proofs.cut_laws.last_cut_is_whole.Goals as goal

pub returns : goal.returns
returns c = whole
