use Rattle.mc_reader.proofs.Written.{written}
use Rattle.mc_reader.proofs.laws.written_is_spelled.Goals as goal

pub returns : goal.returns
returns c = written
