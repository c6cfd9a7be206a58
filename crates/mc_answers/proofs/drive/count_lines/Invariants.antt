use Rattle.std.proofs.Common.{◌≡◌, length}
use Rattle.mc_protocol.specs.{declared.lines.Separator.TheVariants.Space, Lines.counted, Lines.line_count, Lines.lines_of_text}
use Rattle.mc_answers.proofs.drive.count_lines.Given as goal

abbrev pub invariant-lines : goal.invariant-lines
invariant-lines l = record {
  count : line_count l.lines ≡ line_count (lines_of_text Space l.text);
}

abbrev pub decreases-lines : goal.decreases-lines
decreases-lines l = length (counted l.lines)
