use Rattle.mc_shrink.proofs.Parts.{are_explained}
use Rattle.mc_shrink.proofs.laws.parts_are_explained.Goals as goal

pub returns : goal.returns
returns c = are_explained
