-- What comes of the begin of a call that a section may begin.
use Rattle.std.proofs.Common.{◌≡◌, true, Result, Ok, Err, IfErr, is_ok, refl}
use Rattle.mc_protocol.specs.{declared.actor.Actor.Actor, declared.event.Event.Event}
use Rattle.mc_protocol.specs.declared.event.Event.TheVariants as event
use Rattle.mc_code.specs.{Code.Code, declared.instr.Call.Call}
use Rattle.mc_core.specs.{declared.step_refusal.StepRefusal.StepRefusal, Steps.IsRefused, Steps.MayBegin, Worlds.World}

-- it isn't refused
pub begin_is_taken : {X : Type 0} (c : Code) (w : World) (who : Actor) (made : Call) (noted : Result X (StepRefusal × Event))
    → IfErr noted (λ refused. IsRefused c w who event.Begin refused.0) → MayBegin c w who made → is_ok noted ≡ true
begin_is_taken c w who made (Ok x) refused may = refl
begin_is_taken c w who made (Err e) refused may = absurd (may.free e.0 refused.against)
