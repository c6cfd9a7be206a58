-- Whether a section has begun is decided in each world of sound code: a section comes to one outcome at last, its end or another.
use Rattle.std.proofs.Common.{◌≡◌, ◌⊎◌, inl, inr, ℕ, zero, suc, ◌+◌, ◌≤◌, Bool, true, false, Option, Some, None, List, [], length, slice_get, refl, sym}
use Rattle.std.proofs.Common.{subst, ◌∙◌, arith}
use Rattle.std.proofs.lemmas.List.{append-nil}
use Rattle.mc_protocol.specs.{declared.actor.Actor.Actor, declared.fault.Fault.Fault}
use Rattle.mc_protocol.specs.declared.actor.Actor.TheVariants as actor
use Rattle.mc_code.specs.States.{Tagged, is_number, State, Outcome, nothing_to_bind, outside, ended}
use Rattle.mc_code.specs.{Calls.MakesAll, declared.instr.Call.Call, declared.instr.Instr.Instr, Code.Code, Code.instructions_in, Paths.Slides, RunLaws.stops}
use Rattle.mc_code.specs.{Runs.Exchange, Runs.met_by_send, Runs.after_slide, Standing.StandsAt, Standing.ComesTo, Standing.IsRightAlong, Standing.no_variables}
use Rattle.mc_code.specs.declared.instr.Instr.TheVariants as instr
use Rattle.mc_code.proofs.{MadeCalls.calls_stand, RunLemmas.run_slides, Stopping.stop_once}
use Rattle.mc_sound.specs.Faults.{IsSound, IsStructured}
use Rattle.mc_sound.proofs.{Right.sound_right, Right.sound_structured, Structured.structured_slides, Structured.structured_stands}
use Rattle.mc_core.specs.Worlds.{World, exchanges_of, HasEnded, IsBegun, IsDone}
use Rattle.mc_core.proofs.StepLemmas.{MayBeRight, IsRightIn, begun_is_right}

-- ---- to what a section comes

-- an outcome at which the section goes no further without a reply, or a bind where nothing was shown
abbrev Stops : Code → Actor → List Tagged → List Exchange → Type 0
Stops c who variables exchanges = (outcome : Outcome) × (st : State) × ComesTo c who variables exchanges st outcome

-- from each place on the section stops somewhere, since it leads forwards; `room` is how many places may come
stops_within : (c : Code) (who : Actor) (variables : List Tagged) (exchanges : List Exchange) → IsStructured c who → (room p : ℕ) (st : State)
    → length (instructions_in c who) ≤ p + room → StandsAt c who variables exchanges p st → Stops c who variables exchanges
stops_within c who variables exchanges structured zero p st most stands =
    let inside = structured_stands c who structured variables exchanges p st stands in absurd (omega (arith, most, inside))
stops_within c who variables exchanges structured (suc room) p st most stands =
    by_instr (λ q end all there. stops_within c who variables exchanges structured room q end all there) (slice_get (instructions_in c who) p) refl
  where
    -- from a later place on
    Later : Type 0
    Later = (q : ℕ) (end : State) → length (instructions_in c who) ≤ q + room → StandsAt c who variables exchanges q end
        → Stops c who variables exchanges

    goes_on : Later → (i : Instr) (q : ℕ) → slice_get (instructions_in c who) p ≡ Some i → Slides i p q → Stops c who variables exchanges
    goes_on rest i q at leads =
        let later = (structured_slides c who structured i p q at leads).0 in
        rest q (after_slide i st) (omega (arith, most, later)) (run_slides stands i at leads)

    by_number : Later → (v : ℕ) (b : Bool) → is_number st.last.0 ≡ b → slice_get (instructions_in c who) p ≡ Some (instr.Bind v)
        → Stops c who variables exchanges
    by_number rest v true shown at = goes_on rest (instr.Bind v) (p + 1) at refl
    by_number rest v false shown at = (nothing_to_bind v, st, (p, stands, rw (at, shown) refl))

    by_instr : Later → (o : Option Instr) → slice_get (instructions_in c who) p ≡ o → Stops c who variables exchanges
    by_instr rest None at = (outside, st, (p, stands, rw at refl))
    by_instr rest (Some (instr.Send n next)) at = (met_by_send (slice_get c.templates n) st, st, (p, stands, rw at refl))
    by_instr rest (Some (instr.Bind v)) at = by_number rest v (is_number st.last.0) refl at
    by_instr rest (Some (instr.Goto target)) at = goes_on rest (instr.Goto target) target at refl
    by_instr rest (Some instr.Halt) at = (ended, st, (p, stands, rw at refl))

-- ---- whether P is done

-- P begins with its variables alone
p_begins : (c : Code) (w : World) → IsSound c → (right : IsRightIn c w actor.P) → Stops c actor.P (no_variables c) (exchanges_of c w actor.P)
p_begins c w sound right =
    let makes = subst (λ vs. MakesAll c actor.P vs [] w.logs.p.answered) right.begins right.right.makes in
    let here = calls_stand c actor.P (no_variables c) w.logs.p.answered makes in
    stops_within c actor.P (no_variables c) (exchanges_of c w actor.P) (sound_structured c actor.P sound)
    (length (instructions_in c actor.P)) here.0 here.1 (omega arith) here.2

-- it has come to its end, or it comes to none
has_ended : (c : Code) (w : World) → IsSound c → Stops c actor.P (no_variables c) (exchanges_of c w actor.P)
    → HasEnded c w actor.P ⊎ (HasEnded c w actor.P → ⊥)
has_ended c w sound (outcome, st, comes) = by_outcome outcome comes
  where
    xs : List Exchange
    xs = exchanges_of c w actor.P

    right : IsRightAlong c actor.P (no_variables c) xs
    right = sound_right c actor.P (no_variables c) xs sound ([], refl)

    other : (o : Outcome) → ComesTo c actor.P (no_variables c) xs st o → stops o ≡ true → (o ≡ ended → ⊥) → HasEnded c w actor.P → ⊥
    other o comes stop not (variables, end, begins, at_end) =
        let there = subst (λ vs. ComesTo c actor.P vs xs end ended) begins at_end in
        not (stop_once c actor.P (no_variables c) xs st end o ended comes there stop refl).1

    by_outcome : (o : Outcome) → ComesTo c actor.P (no_variables c) xs st o → HasEnded c w actor.P ⊎ (HasEnded c w actor.P → ⊥)
    by_outcome (nothing_to_bind v) comes =
        absurd (let wrong = right xs [] st (nothing_to_bind v) (sym (append-nil xs)) comes in cc)
    by_outcome ended comes = inl (no_variables c, st, refl, comes)
    by_outcome o comes = inr (other o comes refl (λ e. absurd (cc)))

-- P is done, or it isn't
p_done : (c : Code) (w : World) → IsSound c → MayBeRight c w actor.P → IsDone c w actor.P ⊎ (IsDone c w actor.P → ⊥)
p_done c w sound right =
    by_log w.logs.p.fault w.logs.p.waiting refl refl (has_ended c w sound (p_begins c w sound (begun_is_right c w actor.P right tt)))
  where
    by_log : (fault : Option Fault) (waiting : Option Call) → w.logs.p.fault ≡ fault → w.logs.p.waiting ≡ waiting
        → HasEnded c w actor.P ⊎ (HasEnded c w actor.P → ⊥) → IsDone c w actor.P ⊎ (IsDone c w actor.P → ⊥)
    by_log None None faultless idle (inl over) = inl (faultless, idle, over)
    by_log None None faultless idle (inr not) = inr (λ done. not done.2)
    by_log None (Some made) faultless waits over = inr (λ done. absurd (let e = sym waits ∙ done.1 in cc))
    by_log (Some fault) waiting failed waits over = inr (λ done. absurd (let e = sym failed ∙ done.0 in cc))

-- ---- whether a section has begun

pub begun_or_not : (c : Code) (w : World) (who : Actor) → IsSound c → MayBeRight c w actor.P → IsBegun c w who ⊎ (IsBegun c w who → ⊥)
begun_or_not c w actor.P sound right = inl tt
begun_or_not c w _ sound right = p_done c w sound right
