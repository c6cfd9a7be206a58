use Rattle.std.proofs.Common.{[], ◌∷◌, arith, length-append, sym, ◌∙◌}
use Rattle.mc_core.proofs.{LongerFolds.taken, LongerFolds.skipped_over, Safe.folds_safe}
use Rattle.mc_core.proofs.driving.drive.Goals as goal

pub driving-preserved-then-is_err : goal.driving-preserved-then-is_err
driving-preserved-then-is_err c =
    let one = length-append c.driving.yielded ((c.in-Some.actor, c.in-Some.event) ∷ []) in
    let before = c.driving.invariant.few in
    record {
      held = c.step.ensures.held;
      fold =
          skipped_over _ c.driving.yielded c.driving.world c.step.new.self c.in-Some.actor c.in-Some.event c.driving.skipped c.step.result
          c.driving.invariant.fold c.step.ensures.refused c.step.ensures.err (sym c.is_err.ensures.value ∙ c.if-is_err.true);
      small = c.step.ensures.small;
      few = omega (arith, one, before);
    }

pub driving-preserved : goal.driving-preserved
driving-preserved c =
    let one = length-append c.driving.yielded ((c.in-Some.actor, c.in-Some.event) ∷ []) in
    let before = c.driving.invariant.few in
    record {
      held = c.step.ensures.held;
      fold =
          taken _ c.driving.yielded c.driving.world.world c.step.new.self.world c.in-Some.actor c.in-Some.event c.driving.skipped c.step.result
          c.driving.invariant.fold c.step.ensures.taken (sym c.is_err.ensures.value ∙ c.if-is_err.false);
      small = c.step.ensures.small;
      few = omega (arith, one, before);
    }

pub returns-clause-safe : goal.returns-clause-safe
returns-clause-safe c = folds_safe _ _ _ 0 c.know_code.ensures.sound c.driving.invariant.held.fold c.driving.invariant.small
