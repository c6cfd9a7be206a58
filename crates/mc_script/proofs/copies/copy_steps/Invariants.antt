use Rattle.std.proofs.Common.{◌≡◌, take}
use Rattle.mc_script.proofs.copies.copy_steps.Given as goal

abbrev pub invariant-steps : goal.invariant-steps
invariant-steps l = l.copies.items ≡ take l.step-index l.steps
