use Rattle.mc_run.specs.Running.{Grew}
use Rattle.mc_run.proofs.section.run_section.Given as goal

-- the lane grew from the one that was given
abbrev pub invariant-calls : goal.invariant-calls
invariant-calls g l = Grew l.fn.part.lane l.lane
