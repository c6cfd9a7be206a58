use Rattle.mc_reader.proofs.AskUnique.{one_ask as law}
use Rattle.mc_reader.proofs.laws.one_ask.Goals as goal

pub returns : goal.returns
returns c = law
