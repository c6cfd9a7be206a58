-- Where a section of a run has not begun, P failed.
use Rattle.std.proofs.Common.{◌≡◌, Option, Some, None, refl, sym}
use Rattle.mc_protocol.specs.{declared.actor.Actor.Actor, declared.fault.Fault.Fault}
use Rattle.mc_protocol.specs.declared.actor.Actor.TheVariants as actor
use Rattle.mc_code.specs.Code.{Code}
use Rattle.mc_core.specs.declared.ending.Ending.TheVariants as ending
use Rattle.mc_core.specs.Worlds.{World, IsDone, IsEnding, log_of}
use Rattle.mc_run.specs.Laws.{BranchesBeginUnlessPFails}

-- P begins at once, and a branch when P is done
p_is_not_done : (c : Code) (w : World) (who : Actor) → IsEnding c w who ending.NotBegun → IsDone c w actor.P → ⊥
p_is_not_done c w actor.P none done = absurd (none tt)
p_is_not_done c w actor.A none done = none done
p_is_not_done c w actor.B none done = none done

-- P doesn't go on, so where it isn't done it failed
p_failed : (c : Code) (w : World) (fault : Option Fault) → fault ≡ (log_of w actor.P).fault
    → (IsEnding c w actor.P ending.Running → ⊥) → (IsDone c w actor.P → ⊥) → (f : Fault) × IsEnding c w actor.P (ending.Failed f)
p_failed c w None is over undone = absurd (over (tt, sym is, undone))
p_failed c w (Some f) is over undone = (f, (tt, sym is))

pub not_begun : BranchesBeginUnlessPFails
not_begun c w lanes who agree none = p_failed c w (log_of w actor.P).fault refl (agree.over actor.P) (p_is_not_done c w who none)
