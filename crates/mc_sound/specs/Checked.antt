-- Code that was found to be sound, with the most that each of its sections may cost.
use Rattle.mc_protocol.specs.declared.sections.Sections.{Sections}
use Rattle.mc_protocol.specs.{Sections.section_of, declared.actor.Actor.Actor}
use Rattle.mc_code.specs.Code.{Code}
use Rattle.mc_sound.specs.{Costs.IsGreatestCost, Faults.IsSound, declared.cost.Cost.Cost}
use Rattle.mc_sound.specs.declared.measure.Measure.TheVariants as measure

pub record Checked : Type 0 where
  pub code : Code
  pub maxima : Sections Cost

-- the code is sound, and each section may cost this, by each measure, and no more
pub record IsChecked (checked : Checked) : Type 0 where
  pub sound : IsSound checked.code
  pub requests : (actor : Actor) → IsGreatestCost checked.code actor measure.Requests (section_of checked.maxima actor).requests
  pub bytes : (actor : Actor) → IsGreatestCost checked.code actor measure.Bytes (section_of checked.maxima actor).bytes
