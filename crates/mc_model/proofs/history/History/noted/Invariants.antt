use Rattle.std.proofs.Common.{◌≡◌, length}
use Rattle.mc_model.proofs.history.History.noted.Given as goal

abbrev pub invariant-noting : goal.invariant-noting
invariant-noting l = record {
  notes : l.builder ≡ l.yielded;
  place : l.place ≡ length l.yielded;
}
