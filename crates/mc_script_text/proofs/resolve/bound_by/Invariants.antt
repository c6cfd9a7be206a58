use Rattle.std.proofs.Common.{◌≡◌, drop}
use Rattle.mc_script_text.specs.Marks.{bound_by}
use Rattle.mc_script_text.proofs.resolve.bound_by.Given as goal

abbrev pub invariant-marks : goal.invariant-marks
invariant-marks l = bound_by (drop l.mark-index l.marks) ≡ bound_by l.fn.marks
