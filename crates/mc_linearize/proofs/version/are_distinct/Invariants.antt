use Rattle.std.specs.HashSet.{contains}
use Rattle.mc_linearize.proofs.Versions.{AreSeen, is_seen}
use Rattle.mc_linearize.proofs.version.are_distinct.Given as goal

abbrev pub invariant-versions : goal.invariant-versions
invariant-versions l = AreSeen l.versions l.version-index (contains is_seen l.seen)
