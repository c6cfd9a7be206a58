-- Sections of sound code come to nothing wrong.
use Rattle.std.proofs.Common.{◌≡◌, ℕ, ◌<◌, Bool, true, false, Option, Some, None, List, length, slice_get, slice_index_or, refl, sym, ◌∙◌, if◌then◌else◌}
use Rattle.std.proofs.lemmas.Option.{slice_get-get_or}
use Rattle.mc_protocol.specs.declared.actor.Actor.{Actor}
use Rattle.mc_script.specs.{declared.step.Argument.Argument, declared.step.Template.Template}
use Rattle.mc_script.specs.declared.step.Argument.TheVariants as argument
use Rattle.mc_code.specs.Code.{Code, instructions_in}
use Rattle.mc_code.specs.States.{Tagged, nothing, State, Outcome, call, unbound, wrong_kind, nothing_to_bind, outside}
use Rattle.mc_code.specs.States.{ended, call_with, send_outcome, with_argument, wanted_by, is_same, is_number}
use Rattle.mc_code.specs.{declared.instr.Instr.Instr, Calls.no_template, Runs.met_by_send, Runs.met_at, Standing.met_in, Standing.is_right}
use Rattle.mc_code.specs.declared.instr.Instr.TheVariants as instr
use Rattle.mc_code.specs.declared.kind.Kind.TheVariants as kinds
use Rattle.mc_code.proofs.LookUps.{some_is}
use Rattle.mc_sound.specs.{Faults.IsSound, Faults.IsStructured, Faults.MayComeTo, Laws.SoundIsRight}
use Rattle.mc_sound.specs.declared.refusal_kind.RefusalKind.TheVariants as kind
use Rattle.mc_sound.proofs.Structured.{structured_stands, structured_template}

pub sound_structured : (c : Code) (actor : Actor) → IsSound c → IsStructured c actor
sound_structured c actor sound =
    record { targets = sound kind.BadTarget actor; indices = sound kind.BadIndex actor; halts = sound kind.NoHalt actor }

-- ---- a section that is structured has an instruction wherever it stands

call_is_inside : (t : Template) (x : Tagged) → call_with t x ≡ outside → ⊥
call_is_inside t (kinds.Unbound, number) e = absurd (cc)
call_is_inside t (kinds.Cas key, number) e = by_kind (is_same (kinds.Cas key) (wanted_by t.verb t.key)) e
  where
    by_kind : (b : Bool) → (if b then call t number else wrong_kind t) ≡ outside → ⊥
    by_kind true e = absurd (cc)
    by_kind false e = absurd (cc)
call_is_inside t (kinds.Num, number) e = by_kind (is_same kinds.Num (wanted_by t.verb t.key)) e
  where
    by_kind : (b : Bool) → (if b then call t number else wrong_kind t) ≡ outside → ⊥
    by_kind true e = absurd (cc)
    by_kind false e = absurd (cc)

send_is_inside : (t : Template) (st : State) → send_outcome t st ≡ outside → ⊥
send_is_inside t st e = by_argument t.argument e
  where
    by_argument : (a : Argument) → with_argument t a st.variables ≡ outside → ⊥
    by_argument argument.Nothing e = absurd (cc)
    by_argument (argument.Number number) e = absurd (cc)
    by_argument (argument.Variable v) e = call_is_inside t (slice_index_or st.variables v nothing) e

-- a list has an item at a place inside it
has_item : {X : Type 0} (xs : List X) (p : ℕ) (other : X) → p < length xs → slice_get xs p ≡ None → ⊥
has_item xs p other inside none = let some = sym (slice_get-get_or xs p other inside) ∙ none in absurd (cc)

pub not_outside : (c : Code) (actor : Actor) → IsStructured c actor → (p : ℕ) (st : State) → p < length (instructions_in c actor)
    → met_in c actor p st ≡ Some outside → ⊥
not_outside c actor structured p st inside met = by_instr (slice_get (instructions_in c actor) p) refl met
  where
    by_template : (n : ℕ) (o : Option Template) → n < length c.templates → slice_get c.templates n ≡ o
        → Some (met_by_send o st) ≡ Some outside → ⊥
    by_template n None named none met = has_item c.templates n no_template named none
    by_template n (Some t) named some met = send_is_inside t st (some_is (send_outcome t st) outside met)

    by_number : (v : ℕ) (b : Bool) → (if b then None else Some (nothing_to_bind v)) ≡ Some outside → ⊥
    by_number v true e = absurd (cc)
    by_number v false e = absurd (cc)

    by_instr : (o : Option Instr) → slice_get (instructions_in c actor) p ≡ o → met_at c.templates o st ≡ Some outside → ⊥
    by_instr None none met = has_item (instructions_in c actor) p instr.Halt inside none
    by_instr (Some (instr.Send n next)) at met =
        by_template n (slice_get c.templates n) (structured_template c actor structured p n next at) refl met
    by_instr (Some (instr.Bind v)) at met = by_number v (is_number st.last.0) met
    by_instr (Some (instr.Goto target)) at met = absurd (cc)
    by_instr (Some instr.Halt) at met = absurd (cc)

-- ---- and comes to no fault there

pub sound_right : SoundIsRight
sound_right c actor variables exchanges sound (before, begins) xs ys st outcome is (p, stands, met) = by_outcome outcome met
  where
    may_come : (o : Outcome) → met_in c actor p st ≡ Some o → MayComeTo c actor p o
    may_come o met =
        record { before = before; variables = variables; exchanges = xs; st = st; begins = begins; stands = stands; meets = met }

    inside : p < length (instructions_in c actor)
    inside = structured_stands c actor (sound_structured c actor sound) variables xs p st stands

    by_outcome : (o : Outcome) → met_in c actor p st ≡ Some o → is_right o ≡ true
    by_outcome (call t number) met = refl
    by_outcome (unbound t) met = absurd (sound kind.Unbound actor p (t, may_come (unbound t) met))
    by_outcome (wrong_kind t) met = absurd (sound kind.WrongKind actor p (t, may_come (wrong_kind t) met))
    by_outcome (nothing_to_bind v) met = absurd (sound kind.NothingToBind actor p (v, may_come (nothing_to_bind v) met))
    by_outcome outside met = absurd (not_outside c actor (sound_structured c actor sound) p st inside met)
    by_outcome ended met = refl
