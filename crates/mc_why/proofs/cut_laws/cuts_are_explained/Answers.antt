use Rattle.mc_why.proofs.OneLess.{cuts_explained}
use Rattle.mc_why.proofs.cut_laws.cuts_are_explained.Goals as goal

pub returns : goal.returns
returns c = cuts_explained
