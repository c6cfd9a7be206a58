use Rattle.std.specs.{Prelude.take, List.All}
use Rattle.mc_stress.specs.Agreement.{IsRecorded}
use Rattle.mc_stress.proofs.agreement.are_recorded.Given as goal

abbrev pub invariant-clients : goal.invariant-clients
invariant-clients g l = All (IsRecorded l.notes) (take l.one-index l.played)
