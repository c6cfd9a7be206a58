use Rattle.mc_run.specs.Running.{none}
use Rattle.mc_run.proofs.Grown.{grew_twice}
use Rattle.mc_run.proofs.section.run_section.Goals.{else-calls-test, then-calls-test+in_default, then-calls-test+in-Some+then-not-run_call}
use Rattle.mc_run.proofs.section.run_section.Goals as goal

pub calls-init : goal.calls-init
calls-init g c = none

-- with one more call
pub calls-preserved : goal.calls-preserved
calls-preserved g c = grew_twice c.calls.invariant (rw c.prepare_next.ensures at c.run_call.ensures)

-- however the loop ended
pub returns-in-Some-seat : goal.returns-in-Some-seat
returns-in-Some-seat g c = elim c.calls-test.branch [
  | else-calls-test w ↦ rw w.lane-is c.calls.invariant
  | then-calls-test+in_default w ↦ rw (w.lane-is, w.prepare_next.ensures) c.calls.invariant
  | then-calls-test+in-Some+then-not-run_call w ↦
      rw w.lane-is (grew_twice c.calls.invariant (rw w.prepare_next.ensures at w.run_call.ensures))
]

pub returns-in_default-seat : goal.returns-in_default-seat
returns-in_default-seat g c = elim c.calls-test.branch [
  | else-calls-test w ↦ rw w.lane-is c.calls.invariant
  | then-calls-test+in_default w ↦ rw (w.lane-is, w.prepare_next.ensures) c.calls.invariant
  | then-calls-test+in-Some+then-not-run_call w ↦
      rw w.lane-is (grew_twice c.calls.invariant (rw w.prepare_next.ensures at w.run_call.ensures))
]
