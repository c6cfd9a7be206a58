use Rattle.std.proofs.Common.{◌≡◌, ◌+◌, ◌++◌, length, drop}
use Rattle.mc_assembler.specs.{Layout.requests_of, Assembling.instructions_from}
use Rattle.mc_assembler.proofs.emit.add_steps.Given as goal

abbrev pub invariant-steps : goal.invariant-steps
invariant-steps l = record {
  out : l.out.items ++ instructions_from l.places l.template l.index (drop l.index l.steps)
      ≡ l.fn.out.items ++ instructions_from l.fn.places l.fn.first 0 l.fn.steps;
  template : l.template + length (requests_of (drop l.index l.steps)) ≡ l.fn.first + length (requests_of l.fn.steps);
}
