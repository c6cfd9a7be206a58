use Rattle.std.proofs.Common.{◌≡◌, ◌*◌, ◌≤◌}
use Rattle.mc_assembler.specs.Layout.{code_place}
use Rattle.mc_assembler.proofs.step_places.step_of_code.Given as goal

abbrev pub invariant-steps : goal.invariant-steps
invariant-steps l = record {
  end : l.end ≡ code_place l.steps l.index;
  few : l.end ≤ 2 * l.index;
  before : l.end ≤ l.place;
}
