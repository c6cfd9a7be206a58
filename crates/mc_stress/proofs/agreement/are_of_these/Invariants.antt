use Rattle.std.specs.{Prelude.take, List.All}
use Rattle.mc_stress.specs.Agreement.{IsOfOne}
use Rattle.mc_stress.proofs.agreement.are_of_these.Given as goal

abbrev pub invariant-notes : goal.invariant-notes
invariant-notes g l = All (IsOfOne l.played) (take l.client-index l.notes)
