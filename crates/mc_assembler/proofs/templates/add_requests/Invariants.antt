use Rattle.std.proofs.Common.{◌≡◌, ◌++◌, take}
use Rattle.mc_assembler.specs.Layout.{requests_of}
use Rattle.mc_assembler.proofs.templates.add_requests.Given as goal

abbrev pub invariant-steps : goal.invariant-steps
invariant-steps l = l.out.items ≡ l.fn.out.items ++ requests_of (take l.step-index l.steps)
