use Rattle.mc_core.proofs.Safe.{folds_within_room}
use Rattle.mc_core.proofs.laws.folds_are_within_room.Goals as goal

pub returns : goal.returns
returns c = folds_within_room
