use Rattle.std.proofs.Common.{◌≡◌, ◌<◌}
use Rattle.std.specs.Prelude.{None}
use Rattle.mc_generate.proofs.Less.{sum_left}
use Rattle.mc_generate.proofs.shrinker.Shrinker.next.Given as goal

abbrev pub invariant-steps : goal.invariant-steps
invariant-steps l = record {
  script : l.self.script ≡ l.fn.self.script;
  none : l.self.tried ≡ None;
  rounds : l.self.rounds ≡ l.fn.self.rounds;
  some : 0 < l.self.rounds;
}

abbrev pub decreases-steps : goal.decreases-steps
decreases-steps l = sum_left l.self.left
