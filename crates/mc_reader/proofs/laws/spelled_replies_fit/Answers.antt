use Rattle.mc_reader.proofs.Fits.{spelled_fits}
use Rattle.mc_reader.proofs.laws.spelled_replies_fit.Goals as goal

pub returns : goal.returns
returns c = spelled_fits
