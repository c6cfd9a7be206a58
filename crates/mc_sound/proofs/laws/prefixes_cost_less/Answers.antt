use Rattle.mc_sound.proofs.CostLemmas.{cost_less}
use Rattle.mc_sound.proofs.laws.prefixes_cost_less.Goals as goal

pub returns : goal.returns
returns c = cost_less
