use Rattle.mc_answers.proofs.StepNotes.{goes_on, goes_over, skipped_adds, step_adds}
use Rattle.mc_answers.proofs.steps.take_step.Goals.{in-Ok, in-Err}
use Rattle.mc_answers.proofs.steps.take_step.Goals as goal

pub returns-clause-fold : goal.returns-clause-fold
returns-clause-fold c =
    elim c.match-step.branch [
      | in-Ok w ↦ rw w.skipped-is (goes_on c.args.checked.now.code c.args.world.now.world c.step.new.self.world c.args.actor c.args.event
          c.args.skipped.now c.step.result _ w.in-Ok.is c.step.ensures.taken)
      | in-Err w ↦ rw w.skipped-is (goes_over c.args.checked.now.code c.args.world.now c.step.new.self c.args.actor c.args.event
          c.args.skipped.now c.step.result _ w.in-Err.is c.step.ensures.refused c.step.ensures.err)
    ]

pub returns-clause-notes : goal.returns-clause-notes
returns-clause-notes c =
    elim c.match-step.branch [
      | in-Ok w ↦ rw w.result-is (step_adds c.args.checked.now.code c.args.world.now.world c.args.actor c.args.event c.step.new.self.world
          c.note_count-notes.result c.note_count-notes.ensures.count (rw w.in-Ok.is at c.step.ensures.taken))
      | in-Err w ↦ rw w.result-is (skipped_adds c.args.checked.now.code c.args.world.now c.step.new.self (rw w.in-Err.is at c.step.ensures.err))
    ]
