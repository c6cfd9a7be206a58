use Rattle.std.proofs.Common.{length}
use Rattle.mc_script_text.proofs.FrontReads.{Reaches}
use Rattle.mc_script_text.proofs.front.front_of.Given as goal

abbrev pub invariant-lines : goal.invariant-lines
invariant-lines l = Reaches l.text l.len l.lines

abbrev pub decreases-lines : goal.decreases-lines
decreases-lines l = length l.lines
