use Rattle.mc_why.proofs.Cuts.{history_cut}
use Rattle.mc_why.proofs.cut_laws.cuts_are_histories.Goals as goal

pub returns : goal.returns
returns c = history_cut
