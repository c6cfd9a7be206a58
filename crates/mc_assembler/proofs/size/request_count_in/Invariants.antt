use Rattle.std.proofs.Common.{◌≡◌, ◌+◌, ◌≤◌, length, drop}
use Rattle.mc_assembler.specs.Layout.{requests_of}
use Rattle.mc_assembler.proofs.size.request_count_in.Given as goal

abbrev pub invariant-steps : goal.invariant-steps
invariant-steps l = record {
  count : l.count + length (requests_of (drop l.step-index l.steps)) ≡ length (requests_of l.fn.steps);
  few : l.count ≤ l.step-index;
}
