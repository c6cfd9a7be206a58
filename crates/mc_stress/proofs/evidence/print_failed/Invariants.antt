use Rattle.std.specs.Prelude.{◌≡◌, ◌++◌, take}
use Rattle.mc_stress.specs.Evidence.{failed_text}
use Rattle.mc_stress.proofs.evidence.print_failed.Given as goal

abbrev pub invariant-failed : goal.invariant-failed
invariant-failed l = l.out.items ≡ l.initial.out.items ++ failed_text (take l.client-index l.failed)
