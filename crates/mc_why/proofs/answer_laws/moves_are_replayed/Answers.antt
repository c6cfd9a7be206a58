use Rattle.mc_why.proofs.Replayed.{moves_are_replayed as proved}
use Rattle.mc_why.proofs.answer_laws.moves_are_replayed.Goals as goal

pub returns : goal.returns
returns c = proved
