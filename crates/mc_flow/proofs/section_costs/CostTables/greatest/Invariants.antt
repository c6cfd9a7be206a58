use Rattle.mc_sound.specs.{Costs.cost_by, declared.measure.Measure.Measure}
use Rattle.mc_flow.proofs.SectionCosts.{IsGreatestBefore}
use Rattle.mc_flow.proofs.section_costs.CostTables.greatest.Given as goal

abbrev pub invariant-places : goal.invariant-places
invariant-places l = (measure : Measure) → IsGreatestBefore l.code l.fn.actor measure l.place (cost_by measure l.most)
