use Rattle.std.proofs.Common.{◌≡◌, ◌+◌, ◌*◌, ◌≤◌, drop}
use Rattle.mc_assembler.specs.Layout.{size_of_all}
use Rattle.mc_assembler.proofs.size.size_of_all.Given as goal

abbrev pub invariant-steps : goal.invariant-steps
invariant-steps l = record {
  size : l.size + size_of_all (drop l.step-index l.steps) ≡ size_of_all l.fn.steps;
  few : l.size ≤ 2 * l.step-index;
}
