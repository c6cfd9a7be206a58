use Rattle.mc_timeline.proofs.ByNext.{only_next}
use Rattle.mc_timeline.proofs.laws.only_the_next_matter.Goals as goal

pub returns : goal.returns
returns c = only_next
