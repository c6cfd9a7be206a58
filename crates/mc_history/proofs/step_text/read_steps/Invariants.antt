use Rattle.std.proofs.Common.{◌↔◌, ◌≤◌, List, length}
use Rattle.mc_protocol.specs.{declared.actor.Actor.Actor, declared.event.Event.Event}
use Rattle.mc_history.specs.declared.step_text.TheConstants.{STEP_LIST_LIMIT}
use Rattle.mc_history.specs.{Series.Series, StepReading.steps, StepReading.AfterSteps, StepReading.SpellsOnward}
use Rattle.mc_history.proofs.step_text.read_steps.Given as goal

abbrev pub invariant-steps : goal.invariant-steps
invariant-steps l = record {
  few : length l.steps.items ≤ STEP_LIST_LIMIT;
  same : (all : List (Actor × Event)) → Series steps (AfterSteps all) l.steps.items l.lines.words ↔ SpellsOnward l.initial.lines.words all;
}

abbrev pub decreases-steps : goal.decreases-steps
decreases-steps l = length l.lines.words
