use Rattle.mc_why.proofs.Places.{one_place}
use Rattle.mc_why.proofs.cut_laws.places_are_one.Goals as goal

pub returns : goal.returns
returns c = one_place
