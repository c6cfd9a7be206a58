use Rattle.mc_sound.proofs.Admitted.{sound_admitted}
use Rattle.mc_sound.proofs.laws.sound_is_admitted.Goals as goal

pub returns : goal.returns
returns c = sound_admitted
