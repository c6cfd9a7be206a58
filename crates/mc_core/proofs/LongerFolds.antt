-- A fold with one more event.
use Rattle.std.proofs.Common.{◌≡◌, ℕ, ◌+◌, true, false, Result, Ok, Err, List, [], ◌∷◌, ◌++◌, sym, subst}
use Rattle.std.specs.Prelude.{is_err, OnOk, OnErr, IfErr}
use Rattle.mc_protocol.specs.{declared.actor.Actor.Actor, declared.event.Event.Event}
use Rattle.mc_code.specs.Code.{Code}
use Rattle.mc_core.specs.declared.step_refusal.StepRefusal.{StepRefusal}
use Rattle.mc_core.specs.{Held.Held, Steps.IsStep, Steps.IsRefused, Steps.IsFold, Worlds.World, Worlds.Noted, Worlds.new_world}
use Rattle.mc_core.proofs.FoldLemmas.{fold_step, fold_skip}

pub taken : {X : Type 0} (c : Code) (xs : List Noted) (old new : World) (who : Actor) (e : Event) (skipped : ℕ) (r : Result X (StepRefusal × Event))
    → IsFold c new_world xs old skipped → OnOk r (IsStep c old who e new) → is_err r ≡ false
    → IsFold c new_world (xs ++ (who, e) ∷ []) new skipped
taken c xs old new who e skipped (Ok x) fold step is = fold_step c new_world old new xs who e skipped fold step
taken c xs old new who e skipped (Err x) fold step is = absurd (cc)

pub skipped_over : {X : Type 0} (c : Code) (xs : List Noted) (old new : Held) (who : Actor) (e : Event) (skipped : ℕ) (r : Result X (StepRefusal × Event))
    → IsFold c new_world xs old.world skipped → IfErr r (λ refused. IsRefused c old.world who e refused.0) → OnErr r (new ≡ old)
    → is_err r ≡ true
    → IsFold c new_world (xs ++ (who, e) ∷ []) new.world (skipped + 1)
skipped_over c xs old new who e skipped (Ok x) fold refused same is = absurd (cc)
skipped_over c xs old new who e skipped (Err x) fold refused same is =
    subst (λ (h : Held). IsFold c new_world (xs ++ (who, e) ∷ []) h.world (skipped + 1)) (sym same)
    (fold_skip c new_world old.world xs who e x.0 skipped fold refused)
