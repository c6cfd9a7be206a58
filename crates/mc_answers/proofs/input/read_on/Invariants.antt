use Rattle.std.proofs.Common.{◌≡◌, ◌+◌, ◌-◌, ◌≤◌, length}
use Rattle.mc_answers.specs.Input.{Adds}
use Rattle.mc_answers.proofs.input.read_on.Given as goal

abbrev pub invariant-pieces : goal.invariant-pieces
invariant-pieces g l = record {
  short : length l.text.items ≤ l.limit + 1;
  adds : Adds (g.I.Source.left l.initial.input) (g.I.Source.left l.input) l.initial.text.items l.text.items;
  same : g.I.Source.has_failed l.input ≡ g.I.Source.has_failed l.initial.input;
}

abbrev pub decreases-pieces : goal.decreases-pieces
decreases-pieces g l = l.limit + 1 - length l.text.items
