-- Where a machine starts, the call that it makes, and its end.
use Rattle.std.proofs.Common.{◌≡◌, ◌≢◌, ◌↔◌, ◌⊎◌, inl, inr, ℕ, zero, suc, ◌<◌, Bool, true, false, Option, Some, None, IfSome, List, [], length}
use Rattle.std.proofs.Common.{replicate, slice_get, slice_index, slice_index_or, refl, ap, sym, subst, ◌∙◌, arith, if◌then◌else◌}
use Rattle.std.proofs.{lemmas.List.get_or-replicate, lemmas.List.length-replicate, lemmas.Option.get_or_from_slice_get, lemmas.Option.slice_get-get_or}
use Rattle.mc_protocol.specs.declared.actor.Actor.{Actor}
use Rattle.mc_protocol.specs.declared.actor.Actor.TheVariants as actor
use Rattle.mc_script.specs.{declared.step.Argument.Argument, declared.step.Template.Template, declared.limits.TheConstants.VARIABLES_LIMIT}
use Rattle.mc_script.specs.declared.step.Argument.TheVariants as argument
use Rattle.mc_code.specs.Standing.{ComesTo, BeginsAfter, BeginsWith, is_right, met_in, no_variables}
use Rattle.mc_code.specs.States.{Tagged, nothing, State, initial_state, call, wrong_kind, nothing_to_bind, ended}
use Rattle.mc_code.specs.States.{call_with, with_argument, send_outcome, wanted_by, is_same, is_number}
use Rattle.mc_code.specs.{declared.instr.Call.Call, declared.instr.Instr.Instr, Calls.IsCalling, Calls.no_template, Code.Code, Code.IsCode}
use Rattle.mc_code.specs.{Code.instructions_in, Runs.Exchange, Runs.met_at, Runs.met_by_send, Runs.rests}
use Rattle.mc_code.specs.declared.instr.Instr.TheVariants as instr
use Rattle.mc_code.specs.declared.kind.Kind.TheVariants as kind
use Rattle.mc_code.proofs.{LookUps.some_is, StandingLemmas.calls_open, Stopping.one_stop}
use Rattle.mc_sound.specs.Faults.{IsSound}
use Rattle.mc_sound.proofs.{TemplateVariables.variable_declared, Structured.structured_template, Right.sound_structured}
use Rattle.mc_machine.specs.Machine.{AreNumbersOf, IsAt, IsOnWay, StartsFrom, waits_at}
use Rattle.mc_machine.specs.{declared.machine.Machine.Machine, Laws.EndsStartBranches, Laws.OutstandingIsNamed, Moves.Goes, Moves.plain_number}
use Rattle.mc_machine.proofs.Moving.{stops_waiting, way_length, way_right}

-- ---- the start

starts_begun : (c : Code) (a : Actor) (numbers : List ℕ) (variables : List Tagged) → StartsFrom c a numbers variables → BeginsWith c a variables
starts_begun c actor.P numbers variables starts = ([], starts)
starts_begun c actor.A numbers variables starts = starts.0
starts_begun c actor.B numbers variables starts = starts.0

pub starts_on_way : (c : Code) (a : Actor) (given numbers : List ℕ) (variables : List Tagged) → StartsFrom c a given variables
    → AreNumbersOf numbers variables
    → IsOnWay c (record { actor = a; place = 0; numbers = numbers; shown = 0; outstanding = None }) variables [] (initial_state variables)
starts_on_way c a given numbers variables starts are =
    record { begins = starts_begun c a given variables starts; stands = rests; numbers = are; shown = refl }

-- a machine that starts so is on its way
pub starts_goes : (c : Code) (a : Actor) (given numbers : List ℕ) → ((variables : List Tagged) × StartsFrom c a given variables)
    → ((c : Code) (variables : List Tagged) → StartsFrom c a given variables → AreNumbersOf numbers variables)
    → Goes c (record { actor = a; place = 0; numbers = numbers; shown = 0; outstanding = None })
starts_goes c a given numbers (variables, starts) are =
    (variables, [], initial_state variables, starts_on_way c a given numbers variables starts (are c variables starts))

zeros : (size v : ℕ) → slice_index (replicate size 0) v ≡ 0
zeros zero v = refl
zeros (suc size) zero = refl
zeros (suc size) (suc v) = zeros size v

-- numbers that are all 0 are those of variables that have none
pub no_numbers : (c : Code) (size : ℕ) (variables : List Tagged) → variables ≡ no_variables c → AreNumbersOf (replicate size 0) variables
no_numbers c size variables is v inside =
    let declared : v < c.vars = subst (λ n. v < n) (ap length is ∙ length-replicate c.vars nothing) inside in
    zeros size v
    ∙ sym (ap (λ (variables : List Tagged). (slice_index_or variables v nothing).1) is
    ∙ ap (λ (x : Tagged). x.1) (get_or-replicate c.vars v nothing nothing declared))

-- ---- the call

pub template_there : (c : Code) (m : Machine) (n : ℕ) (next : List ℕ) → IsSound c
    → slice_get (instructions_in c m.actor) m.place ≡ Some (instr.Send n next) → n < length c.templates
template_there c m n next sound at = structured_template c m.actor (sound_structured c m.actor sound) m.place n next at

sent_plainly : (t : Template) (a : Argument) (variables : List Tagged) (numbers : List ℕ)
    → is_right (with_argument t a variables) ≡ true → AreNumbersOf numbers variables
    → ((v : ℕ) → a ≡ argument.Variable v → v < length variables) → with_argument t a variables ≡ call t (plain_number a numbers)
sent_plainly t argument.Nothing variables numbers right are inside = refl
sent_plainly t (argument.Number number) variables numbers right are inside = refl
sent_plainly t (argument.Variable v) variables numbers right are inside =
    by_given (slice_index_or variables v nothing) right ∙ ap (call t) (sym (are v (inside v refl)))
  where
    by_kind : (b : Bool) (n : ℕ) → is_right (if b then call t n else wrong_kind t) ≡ true → (if b then call t n else wrong_kind t) ≡ call t n
    by_kind true n right = refl
    by_kind false n right = absurd (cc)

    by_given : (x : Tagged) → is_right (call_with t x) ≡ true → call_with t x ≡ call t x.1
    by_given (kind.Unbound, n) right = absurd (cc)
    by_given (kind.Cas key, n) right = by_kind (is_same (kind.Cas key) (wanted_by t.verb t.key)) n right
    by_given (kind.Num, n) right = by_kind (is_same kind.Num (wanted_by t.verb t.key)) n right

-- the call of the send at which a machine stands
pub calls_there : (c : Code) (m : Machine) (variables : List Tagged) (exchanges : List Exchange) (st : State) (made : Call) (next : List ℕ) (t : Template)
    → IsSound c → IsCode c → IsOnWay c m variables exchanges st
    → slice_get (instructions_in c m.actor) m.place ≡ Some (instr.Send made.template next)
    → slice_get c.templates made.template ≡ Some t → made.number ≡ plain_number t.argument m.numbers
    → IsCalling c m.actor variables exchanges made
calls_there c m variables exchanges st made next t sound kept way at named is =
    let met : met_in c m.actor m.place st ≡ Some (send_outcome t st) =
    ap (λ o. met_at c.templates o st) at ∙ ap (λ o. Some (met_by_send o st)) named in
    let inside : (v : ℕ) → t.argument ≡ argument.Variable v → v < length st.variables =
    λ v e. subst (λ n. v < n) (sym (way_length c m variables exchanges st way)) (variable_declared c made.template t kept named v e) in
    let right = way_right c m variables exchanges st (send_outcome t st) sound way met in
    let sent = sent_plainly t t.argument st.variables m.numbers right way.numbers inside in
    record {
      p = m.place;
      st = st;
      t = t;
      next = next;
      stands = way.stands;
      sends = at;
      meets = met ∙ ap Some (sent ∙ ap (call t) (sym is));
    }

-- the same, where the call is made of the send's index and of the number of its template
pub calls_at : (c : Code) (m : Machine) (variables : List Tagged) (exchanges : List Exchange) (st : State) (n : ℕ) (next : List ℕ) (made : Call)
    → IsSound c → IsCode c → IsAt c m variables exchanges st → slice_get (instructions_in c m.actor) m.place ≡ Some (instr.Send n next)
    → made.template ≡ n → ((t : Template) → slice_get c.templates n ≡ Some t → made.number ≡ plain_number t.argument m.numbers)
    → IsCalling c m.actor variables exchanges made
calls_at c m variables exchanges st n next made sound kept at sends is number =
    let t = slice_index_or c.templates n no_template in
    let named : slice_get c.templates n ≡ Some t = slice_get-get_or c.templates n no_template (template_there c m n next sound sends) in
    let here = subst (λ n. slice_get (instructions_in c m.actor) m.place ≡ Some (instr.Send n next)) (sym is) sends in
    let there = subst (λ n. slice_get c.templates n ≡ Some t) (sym is) named in
    calls_there c m variables exchanges st made next t sound kept at.way here there (number t named)

-- the same machine, with this outstanding
abbrev pub with_outstanding : Machine → Option Call → Machine
with_outstanding m out = record m { outstanding = out }

-- it stands on where nothing is outstanding, or the call that its section is about to make
pub waits_on : (c : Code) (m : Machine) (variables : List Tagged) (exchanges : List Exchange) (st : State) (out : Option Call)
    → IsAt c m variables exchanges st → IfSome out (IsCalling c m.actor variables exchanges)
    → IsAt c (with_outstanding m out) variables exchanges st
waits_on c m variables exchanges st out at calls = record {
  way = record { begins = at.way.begins; stands = at.way.stands; numbers = at.way.numbers; shown = at.way.shown };
  waits = at.waits;
  outstanding = λ made e. subst (λ out. IfSome out (IsCalling c m.actor variables exchanges)) e calls;
}

-- ---- the end

-- only a halt ends a section
halt_ends : (c : Code) (o : Option Instr) (st : State) → met_at c.templates o st ≡ Some ended → o ≡ Some instr.Halt
halt_ends c None st met = absurd (cc)
halt_ends c (Some (instr.Send n next)) st met = by_template (slice_get c.templates n) met
  where
    by_template : (t : Option Template) → Some (met_by_send t st) ≡ Some ended → Some (instr.Send n next) ≡ Some instr.Halt
    by_template None met = absurd (cc)
    by_template (Some t) met = by_argument t.argument (some_is (send_outcome t st) ended met)
      where
        by_kind : (b : Bool) (n : ℕ) → (if b then call t n else wrong_kind t) ≡ ended → ⊥
        by_kind true n e = absurd (cc)
        by_kind false n e = absurd (cc)

        by_given : (x : Tagged) → call_with t x ≡ ended → ⊥
        by_given (kind.Unbound, n) e = absurd (cc)
        by_given (kind.Cas key, n) e = by_kind (is_same (kind.Cas key) (wanted_by t.verb t.key)) n e
        by_given (kind.Num, n) e = by_kind (is_same kind.Num (wanted_by t.verb t.key)) n e

        by_argument : (a : Argument) → with_argument t a st.variables ≡ ended → Some (instr.Send n next) ≡ Some instr.Halt
        by_argument argument.Nothing e = absurd (cc)
        by_argument (argument.Number number) e = absurd (cc)
        by_argument (argument.Variable v) e = absurd (by_given (slice_index_or st.variables v nothing) e)
halt_ends c (Some (instr.Bind v)) st met = absurd (by_number (is_number st.last.0) met)
  where
    by_number : (b : Bool) → (if b then None else Some (nothing_to_bind v)) ≡ Some ended → ⊥
    by_number true e = absurd (cc)
    by_number false e = absurd (cc)
halt_ends c (Some (instr.Goto target)) st met = absurd (cc)
halt_ends c (Some instr.Halt) st met = refl

-- a machine stands at a halt exactly where its section is done
pub halts_at_end : (c : Code) (m : Machine) (variables : List Tagged) (exchanges : List Exchange) (st : State) → IsAt c m variables exchanges st
    → (slice_get (instructions_in c m.actor) m.place ≡ Some instr.Halt) ↔ ComesTo c m.actor variables exchanges st ended
halts_at_end c m variables exchanges st at = (there, back)
  where
    section : List Instr
    section = instructions_in c m.actor

    there : slice_get section m.place ≡ Some instr.Halt → ComesTo c m.actor variables exchanges st ended
    there halt = (m.place, at.way.stands, ap (λ o. met_at c.templates o st) halt)

    back : ComesTo c m.actor variables exchanges st ended → slice_get section m.place ≡ Some instr.Halt
    back (p, stands, met) =
        let halt = halt_ends c (slice_get section p) st met in
        let same = one_stop c.templates section at.way.stands (stops_waiting section m.place at.waits)
        p st stands (stops_waiting section p (ap waits_at halt)) in
        ap (slice_get section) same.0 ∙ halt

-- ---- what a machine finds where it stands

-- a request's variable is one of a machine's numbers
pub declared_there : (c : Code) (n : ℕ) (t : Template) → IsCode c → slice_get c.templates n ≡ Some t → (v : ℕ) → t.argument ≡ argument.Variable v
    → v < VARIABLES_LIMIT
declared_there c n t kept named v is = let declared = variable_declared c n t kept named v is in let few = kept.vars in omega (arith, declared, few)

pub ends_at_no_send : (c : Code) (m : Machine) (variables : List Tagged) (exchanges : List Exchange) (st : State) (n : ℕ) (next : List ℕ)
    → IsAt c m variables exchanges st → slice_get (instructions_in c m.actor) m.place ≡ Some (instr.Send n next)
    → ComesTo c m.actor variables exchanges st ended → ⊥
ends_at_no_send c m variables exchanges st n next at there comes =
    let halt : Some (instr.Send n next) ≡ Some instr.Halt = sym there ∙ (halts_at_end c m variables exchanges st at).1 comes in
    absurd (cc)

-- where a machine stands at no send, its section is done
pub ends_elsewhere : (c : Code) (m : Machine) (variables : List Tagged) (exchanges : List Exchange) (st : State) (i : Instr)
    → IsAt c m variables exchanges st → slice_get (instructions_in c m.actor) m.place ≡ Some i
    → ((v : ℕ) × (i ≡ instr.Bind v)) ⊎ (((target : ℕ) × (i ≡ instr.Goto target)) ⊎ (i ≡ instr.Halt))
    → ComesTo c m.actor variables exchanges st ended
ends_elsewhere c m variables exchanges st i at there other = by_instr other
  where
    waits : waits_at (Some i) ≡ true
    waits = ap waits_at (sym there) ∙ at.waits

    by_instr : ((v : ℕ) × (i ≡ instr.Bind v)) ⊎ (((target : ℕ) × (i ≡ instr.Goto target)) ⊎ (i ≡ instr.Halt))
        → ComesTo c m.actor variables exchanges st ended
    by_instr (inl (v, e)) = absurd (let clash : false ≡ true = ap (λ i. waits_at (Some i)) (sym e) ∙ waits in cc)
    by_instr (inr (inl (target, e))) = absurd (let clash : false ≡ true = ap (λ i. waits_at (Some i)) (sym e) ∙ waits in cc)
    by_instr (inr (inr e)) = (halts_at_end c m variables exchanges st at).0 (there ∙ ap Some e)

-- ---- from P to the branches

pub ends_start_branches : EndsStartBranches
ends_start_branches c m branch variables exchanges st at is comes other = by_branch branch other
  where
    begun_empty : (a : Actor) → a ≡ actor.P → BeginsWith c a variables → variables ≡ no_variables c
    begun_empty a is begins = (subst (λ a. BeginsWith c a variables) is begins).1

    comes_empty : ComesTo c actor.P (no_variables c) exchanges st ended
    comes_empty =
        subst (λ variables. ComesTo c actor.P variables exchanges st ended) (begun_empty m.actor is at.way.begins)
        (subst (λ a. ComesTo c a variables exchanges st ended) is comes)

    by_branch : (branch : Actor) → branch ≢ actor.P
        → StartsFrom c branch m.numbers st.variables × BeginsAfter c exchanges branch st.variables
    by_branch actor.P other = absurd (other refl)
    by_branch actor.A other = (((exchanges, (st, comes_empty, refl)), at.way.numbers), (st, comes_empty, refl))
    by_branch actor.B other = (((exchanges, (st, comes_empty, refl)), at.way.numbers), (st, comes_empty, refl))

-- ---- the outstanding call

-- what is there is found, whatever stands for what isn't
found : {X : Type 0} (xs : List X) (n : ℕ) (x other : X) → slice_get xs n ≡ Some x → slice_get xs n ≡ Some (slice_index_or xs n other)
found xs n x other e = e ∙ sym (ap Some (get_or_from_slice_get xs n x other e))

pub outstanding_is_named : OutstandingIsNamed
outstanding_is_named c m variables exchanges st made at outstanding =
    let named = calls_open c m.actor variables exchanges made (at.outstanding made outstanding) in
    found c.templates made.template named.1 no_template named.2
