use Rattle.std.proofs.Common.{◌≡◌, take, map}
use Rattle.mc_script.specs.WithoutStep.{label_without}
use Rattle.mc_script.proofs.without_step.labels_without.Given as goal

abbrev pub invariant-labels : goal.invariant-labels
invariant-labels l = l.moved.items ≡ map (label_without l.step) (take l.label-index l.labels)
