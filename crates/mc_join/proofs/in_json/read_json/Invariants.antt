use Rattle.std.proofs.Common.{length}
use Rattle.mc_protocol.specs.Lines.{counted}
use Rattle.mc_join.proofs.in_json.read_json.Given as goal

abbrev pub decreases-lines : goal.decreases-lines
decreases-lines l = length (counted l.lines)
