use Rattle.std.proofs.Common.{◌≡◌, ◌++◌, drop}
use Rattle.mc_assembler.specs.Assembling.{label_places}
use Rattle.mc_assembler.proofs.places.label_places.Given as goal

abbrev pub invariant-labels : goal.invariant-labels
invariant-labels l = l.found.items ++ label_places l.places (drop l.label-index l.labels) ≡ label_places l.fn.places l.fn.labels
