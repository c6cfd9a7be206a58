use Rattle.mc_reader.proofs.Unique.{one_reply as law}
use Rattle.mc_reader.proofs.laws.one_reply.Goals as goal

pub returns : goal.returns
returns c = law
