use Rattle.std.proofs.Common.{length}
use Rattle.mc_protocol.specs.Lines.{counted}
use Rattle.mc_picture.proofs.lines.numbered_lines.Given as goal

abbrev pub decreases-lines : goal.decreases-lines
decreases-lines l = length (counted l.lines)
