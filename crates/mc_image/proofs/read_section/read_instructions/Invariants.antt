use Rattle.std.proofs.Common.{◌≡◌, ◌-◌}
use Rattle.mc_image.specs.ImageReading.{items_in, instr_in, instructions_in}
use Rattle.mc_image.proofs.read_section.read_instructions.Given as goal

abbrev pub invariant-loop : goal.invariant-loop
invariant-loop l = items_in (λ _. instr_in) (l.count - l.counter) l.instructions.items l.fields ≡ instructions_in l.fn.version l.fn.fields
