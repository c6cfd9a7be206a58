use Rattle.std.proofs.Common.{◌≡◌, ◌++◌, take}
use Rattle.std.specs.List.{flat_map}
use Rattle.mc_timeline_why.specs.TimelineWhyText.{number_text}
use Rattle.mc_timeline_why.proofs.report.print_numbers.Given as goal

abbrev pub invariant-lines : goal.invariant-lines
invariant-lines l = l.out.items ≡ l.initial.out.items ++ flat_map number_text (take l.line-index l.lines)
