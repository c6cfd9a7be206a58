use Rattle.std.proofs.Common.{◌≤◌, ℕ}
use Rattle.mc_explain.specs.Hopeless.{IsUnexplained}
use Rattle.mc_why.specs.Cuts.{cut}
use Rattle.mc_why.proofs.locating.go_back.Given as goal

abbrev pub invariant-going_back : goal.invariant-going_back
invariant-going_back l = record {
  within : l.place ≤ l.count;
  onward : (n : ℕ) → l.place ≤ n → IsUnexplained (cut n l.history);
}

abbrev pub decreases-going_back : goal.decreases-going_back
decreases-going_back l = l.place
