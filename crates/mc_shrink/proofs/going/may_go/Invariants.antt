use Rattle.std.proofs.Common.{◌≡◌, ◌++◌, drop}
use Rattle.mc_shrink.specs.Going.{may_go_from}
use Rattle.mc_shrink.proofs.going.may_go.Given as goal

-- what is said of the places so far, and what is said of the others, is all that is said
abbrev pub invariant-notes : goal.invariant-notes
invariant-notes l = l.may.items ++ may_go_from l.place (drop l.place l.notes) ≡ may_go_from 0 l.notes
