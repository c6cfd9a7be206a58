use Rattle.std.proofs.Common.{◌≡◌, take}
use Rattle.mc_script_text.specs.Marks.{mask_of}
use Rattle.mc_script_text.proofs.resolve.mask_of.Given as goal

abbrev pub invariant-marks : goal.invariant-marks
invariant-marks l = l.mask ≡ mask_of l.sign (take l.mark-index l.marks)
