use Rattle.std.proofs.Common.{◌≡◌, take}
use Rattle.mc_script.proofs.copies.copy_labels.Given as goal

abbrev pub invariant-labels : goal.invariant-labels
invariant-labels l = l.copies.items ≡ take l.label-index l.labels
