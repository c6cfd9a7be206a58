use Rattle.mc_model.proofs.Prefixes.{no_history}
use Rattle.mc_model.proofs.history_laws.faulty_are_no_histories.Goals as goal

pub returns : goal.returns
returns c = no_history
