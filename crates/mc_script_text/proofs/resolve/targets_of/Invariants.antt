use Rattle.std.proofs.Common.{◌≡◌, drop}
use Rattle.mc_script_text.specs.Reading.{onto, targets_in}
use Rattle.mc_script_text.proofs.resolve.targets_of.Given as goal

abbrev pub invariant-marks : goal.invariant-marks
invariant-marks l = onto l.targets.items (targets_in l.labels l.place (drop l.mark-index l.marks)) ≡ targets_in l.labels l.place l.fn.marks
