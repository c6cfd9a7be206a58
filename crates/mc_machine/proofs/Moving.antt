-- How a machine goes on: from one instruction to the next without a reply, and with one.
use Rattle.std.proofs.Common.{◌≡◌, ◌≢◌, ◌⊎◌, inl, inr, ℕ, ◌+◌, ◌<◌, ◌≤◌, ◌==◌, Bool, true, false, Some, None, List, [], ◌∷◌, ◌++◌, length}
use Rattle.std.proofs.Common.{slice_get, slice_set, slice_index, slice_index_or, refl, ap, sym, subst, ◌∙◌, arith, if◌then◌else◌}
use Rattle.std.proofs.lemmas.List.{append-nil, get_or-set_same, get_or-set_other}
use Rattle.std.proofs.{Math.ListN.length-set, lemmas.Bool.eqb-true, lemmas.Bool.Decides.eqb_tells, lemmas.Option.slice_get-get_or}
use Rattle.mc_protocol.specs.{Legal.class_of, Legal.is_fit_for, declared.reply.Reply.Reply}
use Rattle.mc_script.specs.declared.limits.TheConstants.{VARIABLES_LIMIT}
use Rattle.mc_code.specs.declared.limits.TheConstants.{INSTRUCTIONS_LIMIT}
use Rattle.mc_code.specs.States.{Tagged, nothing, State, initial_state, after_reply, after_bind, Outcome, is_number, nothing_to_bind, shown_of}
use Rattle.mc_code.specs.{declared.instr.Call.Call, declared.instr.Instr.Instr, Calls.exchange_of, Calls.no_template, Calls.template_of, Code.Code, Code.IsCode}
use Rattle.mc_code.specs.{Code.instructions_in, Paths.Slides, Paths.entry_of, Runs.Exchange, Runs.met_at, Standing.StandsAt, Standing.is_right, Standing.met_in}
use Rattle.mc_code.specs.declared.instr.Instr.TheVariants as instr
use Rattle.mc_code.proofs.{LookUps.some_is, RunLemmas.run_sends, RunLemmas.run_slides, RunLemmas.fit_is_legal, Stopping.StopsAt, Stopping.one_stop}
use Rattle.mc_sound.specs.Faults.{IsSound}
use Rattle.mc_sound.proofs.{Right.sound_right, Right.sound_structured, RunLengths.begins_length, RunLengths.run_keeps_length, Structured.structured_slides}
use Rattle.mc_sound.proofs.{Structured.structured_stands, Structured.structured_template, Structured.structured_variable}
use Rattle.mc_machine.specs.Machine.{AreNumbersOf, IsAnswered, IsAt, IsOnWay, MayBeAnswered, Stands, waits_at}
use Rattle.mc_machine.specs.{declared.machine.Machine.Machine, Moves.Follows, Moves.Goes, Moves.IsTaken}

-- ---- a machine on its way through sound code

way_inside : (c : Code) (m : Machine) (variables : List Tagged) (exchanges : List Exchange) (st : State) → IsSound c
    → IsOnWay c m variables exchanges st → m.place < length (instructions_in c m.actor)
way_inside c m variables exchanges st sound way =
    structured_stands c m.actor (sound_structured c m.actor sound) variables exchanges m.place st way.stands

pub goes_inside : (c : Code) (m : Machine) → IsSound c → Goes c m → m.place < length (instructions_in c m.actor)
goes_inside c m sound (variables, exchanges, st, way) = way_inside c m variables exchanges st sound way

pub way_length : (c : Code) (m : Machine) (variables : List Tagged) (exchanges : List Exchange) (st : State)
    → IsOnWay c m variables exchanges st → length st.variables ≡ c.vars
way_length c m variables exchanges st way =
    run_keeps_length c.templates (instructions_in c m.actor) 0 m.place (initial_state variables) st exchanges way.stands
    ∙ begins_length c way.begins.0 m.actor variables way.begins.1

pub way_right : (c : Code) (m : Machine) (variables : List Tagged) (exchanges : List Exchange) (st : State) (outcome : Outcome) → IsSound c
    → IsOnWay c m variables exchanges st → met_in c m.actor m.place st ≡ Some outcome → is_right outcome ≡ true
way_right c m variables exchanges st outcome sound way met =
    sound_right c m.actor variables exchanges sound way.begins exchanges [] st outcome (sym (append-nil exchanges)) (m.place, way.stands, met)

-- a bind in sound code finds a number that was shown
bind_finds : (c : Code) (m : Machine) (variables : List Tagged) (exchanges : List Exchange) (st : State) (v : ℕ) → IsSound c
    → IsOnWay c m variables exchanges st → slice_get (instructions_in c m.actor) m.place ≡ Some (instr.Bind v)
    → is_number st.last.0 ≡ true
bind_finds c m variables exchanges st v sound way at = by_number (is_number st.last.0) refl
  where
    by_number : (b : Bool) → is_number st.last.0 ≡ b → is_number st.last.0 ≡ true
    by_number true e = e
    by_number false e =
        let met : met_in c m.actor m.place st ≡ Some (nothing_to_bind v) =
        ap (λ o. met_at c.templates o st) at ∙ ap (λ (b : Bool). if b then None else Some (nothing_to_bind v)) e in
        let wrong : false ≡ true = way_right c m variables exchanges st (nothing_to_bind v) sound way met in
        absurd (cc)

-- ---- without a reply

pub follows_goto : (c : Code) (m : Machine) (target : ℕ) → slice_get (instructions_in c m.actor) m.place ≡ Some (instr.Goto target)
    → Follows c m (record m { place = target })
follows_goto c m target at variables exchanges st way = (
  st,
  record {
    begins = way.begins;
    stands = run_slides way.stands (instr.Goto target) at refl;
    numbers = way.numbers;
    shown = way.shown;
  },
)

-- numbers and variables after the same change of both
set_numbers : (numbers : List ℕ) (variables : List Tagged) (v : ℕ) (x : Tagged) (n : ℕ) → v < length numbers → v < length variables
    → n ≡ x.1 → AreNumbersOf numbers variables → AreNumbersOf (slice_set numbers v n) (slice_set variables v x)
set_numbers numbers variables v x n long inside same are w within = by_same (v == w) refl
  where
    number : Tagged → ℕ
    number x = x.1

    by_same : (b : Bool) → (v == w) ≡ b
        → slice_index (slice_set numbers v n) w ≡ (slice_index_or (slice_set variables v x) w nothing).1
    by_same true e =
        subst (λ w. slice_index (slice_set numbers v n) w ≡ (slice_index_or (slice_set variables v x) w nothing).1) (eqb-true v w e)
        (get_or-set_same numbers v n 0 long ∙ same ∙ sym (ap number (get_or-set_same variables v x nothing inside)))
    by_same false e =
        get_or-set_other numbers v w n 0 apart ∙ are w (subst (λ size. w < size) (length-set variables v x) within)
        ∙ sym (ap number (get_or-set_other variables v w x nothing apart))
      where
        apart : w ≢ v
        apart is = elim (eqb_tells v w) [
          | inl there ↦ absurd (let clash : true ≡ false = sym there.0 ∙ e in cc)
          | inr other ↦ other.1 (sym is)
        ]

-- the state after a bind that was shown a number
abbrev bound : ℕ → State → State
bound v st = record { variables = slice_set st.variables v st.last; last = st.last }

pub follows_bind : (c : Code) (m : Machine) (v : ℕ) → IsSound c
    → slice_get (instructions_in c m.actor) m.place ≡ Some (instr.Bind v) → c.vars ≤ length m.numbers
    → Follows c m (record m { place = m.place + 1; numbers = slice_set m.numbers v m.shown })
follows_bind c m v sound at long variables exchanges st way =
    let declared : v < c.vars = structured_variable c m.actor (sound_structured c m.actor sound) m.place v at in
    let inside : v < length st.variables = subst (λ n. v < n) (sym (way_length c m variables exchanges st way)) declared in
    let is : after_bind v st ≡ bound v st =
    ap (λ (b : Bool). if b then bound v st else st) (bind_finds c m variables exchanges st v sound way at) in (
      bound v st,
      record {
        begins = way.begins;
        stands =
            subst (λ after. StandsAt c m.actor variables exchanges (m.place + 1) after) is (run_slides way.stands (instr.Bind v) at refl);
        numbers = set_numbers m.numbers st.variables v st.last m.shown (omega (arith, declared, long)) inside way.shown way.numbers;
        shown = way.shown;
      },
    )

-- a bind or a goto leads ahead, inside the section
pub goes_ahead : (c : Code) (m : Machine) (i : Instr) (q : ℕ) → IsSound c
    → slice_get (instructions_in c m.actor) m.place ≡ Some i → Slides i m.place q
    → (m.place < q) × (q < length (instructions_in c m.actor))
goes_ahead c m i q sound at leads = structured_slides c m.actor (sound_structured c m.actor sound) i m.place q at leads

-- a bind's variable is one of a machine's numbers
pub goes_declared : (c : Code) (m : Machine) (v : ℕ) → IsSound c → IsCode c
    → slice_get (instructions_in c m.actor) m.place ≡ Some (instr.Bind v) → v < VARIABLES_LIMIT
goes_declared c m v sound kept at =
    let declared = structured_variable c m.actor (sound_structured c m.actor sound) m.place v at in
    let few = kept.vars in omega (arith, declared, few)

-- a section is short, so its places are bytes
pub goes_short : (c : Code) (m : Machine) (i : Instr) (q : ℕ) → IsSound c → IsCode c
    → slice_get (instructions_in c m.actor) m.place ≡ Some i → Slides i m.place q → (m.place < q) × (q < INSTRUCTIONS_LIMIT)
goes_short c m i q sound kept at leads =
    let ahead = goes_ahead c m i q sound at leads in
    let few = (kept.sections m.actor).few in
    let inside = ahead.1 in
    (ahead.0, omega (arith, inside, few))

pub bind_ahead : (c : Code) (m : Machine) (v : ℕ) → IsSound c → IsCode c
    → slice_get (instructions_in c m.actor) m.place ≡ Some (instr.Bind v) → (m.place < m.place + 1) × (m.place + 1 < INSTRUCTIONS_LIMIT)
bind_ahead c m v sound kept at = goes_short c m (instr.Bind v) (m.place + 1) sound kept at refl

-- ---- with a reply

-- the machine at another place, with this number shown, and no call outstanding
abbrev pub taken : Machine → ℕ → ℕ → Machine
taken m place shown = record { actor = m.actor; place = place; numbers = m.numbers; shown = shown; outstanding = None }

same_index : (m n : ℕ) (xs ys : List ℕ) → Some (instr.Send m xs) ≡ Some (instr.Send n ys) → m ≡ n
same_index m n xs ys e = cc

pub stops_waiting : (section : List Instr) (p : ℕ) → waits_at (slice_get section p) ≡ true → StopsAt section p
stops_waiting section p waits i q at leads = by_instr i (sym (ap waits_at at) ∙ waits) leads
  where
    by_instr : (i : Instr) → waits_at (Some i) ≡ true → Slides i p q → ⊥
    by_instr (instr.Send n next) w leads = leads
    by_instr (instr.Bind v) w leads = absurd (cc)
    by_instr (instr.Goto target) w leads = absurd (cc)
    by_instr instr.Halt w leads = leads

-- a machine with a call outstanding stands at the call's send
pub sends_there : (c : Code) (m : Machine) (variables : List Tagged) (exchanges : List Exchange) (st : State) (made : Call)
    → IsAt c m variables exchanges st → m.outstanding ≡ Some made
    → (next : List ℕ) × (slice_get (instructions_in c m.actor) m.place ≡ Some (instr.Send made.template next))
sends_there c m variables exchanges st made at outstanding =
    let section = instructions_in c m.actor in
    let calling = at.outstanding made outstanding in
    let same = one_stop c.templates section calling.stands (stops_waiting section calling.p (ap waits_at calling.sends))
    m.place st at.way.stands (stops_waiting section m.place at.waits) in
    (calling.next, sym (ap (slice_get section) same.0) ∙ calling.sends)

-- a send is no other instruction
pub sends_alone : (i : Instr) (n : ℕ) (next : List ℕ) → i ≡ instr.Send n next
    → ((v : ℕ) × (i ≡ instr.Bind v)) ⊎ (((target : ℕ) × (i ≡ instr.Goto target)) ⊎ (i ≡ instr.Halt)) → ⊥
sends_alone i n next is (inl (v, e)) = absurd (cc)
sends_alone i n next is (inr (inl (target, e))) = absurd (cc)
sends_alone i n next is (inr (inr e)) = absurd (cc)

takes : (c : Code) (m : Machine) (variables : List Tagged) (exchanges : List Exchange) (st : State) (made : Call) (reply : Reply)
    (next : List ℕ) (shown : ℕ) → IsSound c → IsAt c m variables exchanges st
    → slice_get (instructions_in c m.actor) m.place ≡ Some (instr.Send made.template next)
    → is_fit_for (template_of c made).verb reply ≡ true → ((key : ℕ) → shown ≡ (shown_of key reply).1)
    → IsOnWay c (taken m (entry_of next (class_of reply)) shown) variables (exchanges ++ exchange_of c (made, reply) ∷ [])
    (after_reply (template_of c made) reply st)
takes c m variables exchanges st made reply next shown sound at there fit is_shown =
    let t = template_of c made in
    let inside = structured_template c m.actor (sound_structured c m.actor sound) m.place made.template next there in
    let named = slice_get-get_or c.templates made.template no_template inside in
    record {
      begins = at.way.begins;
      stands = run_sends at.way.stands (instr.Send made.template next) t reply there (named, fit_is_legal t.verb reply fit, refl) fit;
      numbers = at.way.numbers;
      shown = is_shown t.key;
    }

-- a machine that goes where the class of a fitting reply leads takes the reply
pub takes_reply : (c : Code) (m : Machine) (reply : Reply) (n : ℕ) (next : List ℕ) (shown : ℕ) → IsSound c → MayBeAnswered c m reply
    → slice_get (instructions_in c m.actor) m.place ≡ Some (instr.Send n next) → ((key : ℕ) → shown ≡ (shown_of key reply).1)
    → IsTaken c m reply (taken m (entry_of next (class_of reply)) shown)
takes_reply c m reply n next shown sound (asked, waits, fit) there is_shown made variables exchanges st outstanding at =
    let one : asked ≡ made = some_is asked made (sym waits ∙ outstanding) in
    let sends = sends_there c m variables exchanges st made at outstanding in
    let named : n ≡ made.template = same_index n made.template next sends.0 (sym there ∙ sends.1) in
    let there' = subst (λ n. slice_get (instructions_in c m.actor) m.place ≡ Some (instr.Send n next)) named there in
    let fit' = subst (λ (made : Call). is_fit_for (template_of c made).verb reply ≡ true) one fit in
    (after_reply (template_of c made) reply st, takes c m variables exchanges st made reply next shown sound at there' fit' is_shown)

-- ---- the whole answer

pub taken_goes : (c : Code) (m n : Machine) (reply : Reply) → Stands c m → MayBeAnswered c m reply → IsTaken c m reply n → Goes c n
taken_goes c m n reply (variables, exchanges, st, at) (made, waits, fit) takes =
    let after = takes made variables exchanges st waits at in (variables, exchanges ++ exchange_of c (made, reply) ∷ [], after.0, after.1)

pub stands_after : (c : Code) (n : Machine) (variables : List Tagged) (exchanges : List Exchange) (st : State)
    → IsOnWay c n variables exchanges st → waits_at (slice_get (instructions_in c n.actor) n.place) ≡ true → n.outstanding ≡ None
    → IsAt c n variables exchanges st
stands_after c n variables exchanges st way waits idle =
    record { way = way; waits = waits; outstanding = λ made e. absurd (let clash : None ≡ Some made = sym idle ∙ e in cc) }

pub taken_answers : (c : Code) (m n o : Machine) (reply : Reply) → IsTaken c m reply n → Follows c n o
    → waits_at (slice_get (instructions_in c o.actor) o.place) ≡ true → o.outstanding ≡ None → IsAnswered c m reply o
taken_answers c m n o reply takes follows waits idle made variables exchanges st outstanding at =
    let taken = takes made variables exchanges st outstanding at in
    let more = exchanges ++ exchange_of c (made, reply) ∷ [] in
    let after = follows variables more taken.0 taken.1 in
    (after.0, stands_after c o variables more after.0 after.1 waits idle)

pub answered_stands : (c : Code) (m n : Machine) (reply : Reply) → Stands c m → MayBeAnswered c m reply → IsAnswered c m reply n → Stands c n
answered_stands c m n reply (variables, exchanges, st, at) (made, waits, fit) answers =
    let after = answers made variables exchanges st waits at in (variables, exchanges ++ exchange_of c (made, reply) ∷ [], after.0, after.1)
