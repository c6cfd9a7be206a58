use Rattle.mc_why.proofs.Begun.{replies_stand_at_places as proved}
use Rattle.mc_why.proofs.cut_laws.replies_stand_at_places.Goals as goal

pub returns : goal.returns
returns c = proved
