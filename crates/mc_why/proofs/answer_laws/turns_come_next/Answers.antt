use Rattle.mc_why.proofs.Replayed.{turns_come_next as proved}
use Rattle.mc_why.proofs.answer_laws.turns_come_next.Goals as goal

pub returns : goal.returns
returns c = proved
