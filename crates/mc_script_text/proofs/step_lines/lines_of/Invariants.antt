use Rattle.std.proofs.Common.{◌≡◌, ◌+◌, length, drop}
use Rattle.mc_script_text.specs.Reading.{step_total}
use Rattle.mc_script_text.proofs.step_lines.lines_of.Given as goal

abbrev pub invariant-entries : goal.invariant-entries
invariant-entries l = length l.numbers.items + step_total (drop l.numbered-index l.entries) ≡ step_total l.fn.entries
