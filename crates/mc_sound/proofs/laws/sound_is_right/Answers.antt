use Rattle.mc_sound.proofs.Right.{sound_right}
use Rattle.mc_sound.proofs.laws.sound_is_right.Goals as goal

pub returns : goal.returns
returns c = sound_right
