use Rattle.std.proofs.Common.{◌≡◌, drop}
use Rattle.mc_assembler.specs.ScriptRuns.{jump_on}
use Rattle.mc_assembler.proofs.emit.jump_on.Given as goal

abbrev pub invariant-jumps : goal.invariant-jumps
invariant-jumps l = jump_on l.class (drop l.other-index l.jumps) ≡ jump_on l.fn.class l.fn.jumps
