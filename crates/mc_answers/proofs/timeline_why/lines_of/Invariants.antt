use Rattle.std.proofs.Common.{◌≡◌, map, take}
use Rattle.mc_answers.specs.WhyAnswers.{line_after_header}
use Rattle.mc_answers.proofs.timeline_why.lines_of.Given as goal

abbrev pub invariant-places : goal.invariant-places
invariant-places l = l.lines.items ≡ map (line_after_header l.text) (take l.place-index l.places)
