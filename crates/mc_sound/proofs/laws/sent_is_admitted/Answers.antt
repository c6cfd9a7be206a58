use Rattle.mc_sound.proofs.Sent.{sent_admitted}
use Rattle.mc_sound.proofs.laws.sent_is_admitted.Goals as goal

pub returns : goal.returns
returns c = sent_admitted
