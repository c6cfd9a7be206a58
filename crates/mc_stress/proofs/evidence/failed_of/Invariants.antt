use Rattle.std.specs.Prelude.{◌≡◌, take}
use Rattle.mc_stress.specs.Evidence.{failed_of}
use Rattle.mc_stress.proofs.evidence.failed_of.Given as goal

abbrev pub invariant-clients : goal.invariant-clients
invariant-clients g l = l.failed.items ≡ failed_of (take l.one-index l.played)
