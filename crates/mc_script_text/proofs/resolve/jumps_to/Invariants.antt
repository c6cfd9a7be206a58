use Rattle.std.proofs.Common.{◌≡◌, take}
use Rattle.mc_script_text.specs.Reading.{jumps_to}
use Rattle.mc_script_text.proofs.resolve.jumps_to.Given as goal

abbrev pub invariant-classes : goal.invariant-classes
invariant-classes l = l.jumps.items ≡ jumps_to l.targets (take l.class-index l.classes)
