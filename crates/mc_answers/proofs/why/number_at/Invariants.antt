use Rattle.std.proofs.Common.{◌≡◌, length}
use Rattle.mc_protocol.specs.Lines.{counted}
use Rattle.mc_answers.specs.WhyAnswers.{number_at}
use Rattle.mc_answers.proofs.why.number_at.Given as goal

-- the line is the one at the index that is left, among the lines that are left
abbrev pub invariant-lines : goal.invariant-lines
invariant-lines l = record {
  number : number_at l.section l.left (counted l.lines) ≡ number_at l.section l.index (counted l.initial.lines);
}

abbrev pub decreases-lines : goal.decreases-lines
decreases-lines l = length (counted l.lines)
