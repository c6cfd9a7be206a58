use Rattle.std.proofs.Common.{◌≡◌, length}
use Rattle.mc_model.specs.Next.{with_section}
use Rattle.mc_model.proofs.history.push_all.Given as goal

abbrev pub invariant-requests : goal.invariant-requests
invariant-requests l = record {
  sections : l.builder ≡ with_section l.initial.builder l.actor l.yielded;
  place : l.place ≡ length l.yielded;
}
