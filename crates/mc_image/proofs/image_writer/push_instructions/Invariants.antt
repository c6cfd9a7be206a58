use Rattle.std.proofs.Common.{◌≡◌, ◌++◌, take}
use Rattle.std.specs.List.{flat_map}
use Rattle.mc_image.specs.Image.{instr_bytes}
use Rattle.mc_image.proofs.image_writer.push_instructions.Given as goal

abbrev pub invariant-instructions : goal.invariant-instructions
invariant-instructions l =
    l.out.items ≡ l.initial.out.items ++ flat_map instr_bytes (take l.instr-index l.instructions)
