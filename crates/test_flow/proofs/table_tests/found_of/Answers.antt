use Rattle.std.proofs.Common.{sym, subst}
use Rattle.mc_sound.specs.Faults.{IsSound}
use Rattle.mc_sound.proofs.Right.{sound_structured}
use Rattle.test_flow.proofs.table_tests.found_of.Goals as goal

pub found_in-requires : goal.found_in-requires
found_in-requires c actor = sound_structured c.code.result.now actor (subst IsSound (sym c.code.ensures.code) c.code.ensures.sound)
