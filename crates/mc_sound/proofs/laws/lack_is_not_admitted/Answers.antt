use Rattle.mc_sound.proofs.Admitted.{lack_not_admitted}
use Rattle.mc_sound.proofs.laws.lack_is_not_admitted.Goals as goal

pub returns : goal.returns
returns c = lack_not_admitted
