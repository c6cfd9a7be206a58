use Rattle.std.proofs.Common.{◌≡◌, ◌+◌, ◌<◌, ◌++◌, drop}
use Rattle.std.specs.List.{All}
use Rattle.mc_code.specs.{declared.limits.TheConstants.INSTRUCTIONS_LIMIT}
use Rattle.mc_assembler.specs.{Layout.size_of_all, Assembling.places_from}
use Rattle.mc_assembler.proofs.places.step_places.Given as goal

abbrev pub invariant-steps : goal.invariant-steps
invariant-steps l = record {
  places : l.places.items ++ places_from l.place (drop l.step-index l.steps) ≡ places_from l.fn.first l.fn.steps;
  place : l.place + size_of_all (drop l.step-index l.steps) ≡ l.fn.first + size_of_all l.fn.steps;
  below : All (λ place. place < INSTRUCTIONS_LIMIT) l.places.items;
}
