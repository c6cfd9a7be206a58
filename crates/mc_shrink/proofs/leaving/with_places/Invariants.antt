use Rattle.std.proofs.Common.{◌≡◌, length}
use Rattle.mc_shrink.specs.Going.{Tells}
use Rattle.mc_shrink.proofs.leaving.with_places.Given as goal

abbrev pub invariant-places : goal.invariant-places
invariant-places l = record {
  count : length l.more.items ≡ l.place;
  tells : Tells l.may l.more.items;
}
