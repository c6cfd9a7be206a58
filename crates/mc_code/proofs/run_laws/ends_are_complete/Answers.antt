use Rattle.mc_code.proofs.RunLemmas.{ends_complete}
use Rattle.mc_code.proofs.run_laws.ends_are_complete.Goals as goal

pub returns : goal.returns
returns c = ends_complete
