use Rattle.mc_reader.proofs.AskWritten.{written as law}
use Rattle.mc_reader.proofs.laws.written_is_asked.Goals as goal

pub returns : goal.returns
returns c = law
