use Rattle.mc_rounds.proofs.Fitting.{fitting}
use Rattle.mc_rounds.proofs.laws.requests_fit.Goals as goal

pub returns : goal.returns
returns c = fitting
