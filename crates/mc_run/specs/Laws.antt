-- Laws of runs.
use Rattle.mc_protocol.specs.{declared.actor.Actor.Actor, declared.fault.Fault.Fault}
use Rattle.mc_protocol.specs.declared.actor.Actor.TheVariants as actor
use Rattle.mc_code.specs.Code.{Code}
use Rattle.mc_core.specs.declared.ending.Ending.TheVariants as ending
use Rattle.mc_core.specs.Worlds.{World, IsEnding}
use Rattle.mc_run.specs.Agreement.{Agree, LaneRecords}

-- where a section of a run has not begun, P failed
abbrev pub BranchesBeginUnlessPFails : Type 0
BranchesBeginUnlessPFails = (c : Code) (w : World) (lanes : LaneRecords) (who : Actor) → Agree c w lanes
    → IsEnding c w who ending.NotBegun → (f : Fault) × IsEnding c w actor.P (ending.Failed f)
