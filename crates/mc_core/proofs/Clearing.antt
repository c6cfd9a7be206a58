-- P of sound code deletes each key before it does anything else.
use Rattle.std.proofs.Common.{◌≡◌, ◌⊎◌, inl, inr, ℕ, ◌+◌, ◌<◌, ◌≤◌, ◌==◌, true, ◌&&◌, Option, Some, None, List, [], ◌∷◌, ◌++◌, length, map}
use Rattle.std.proofs.Common.{slice_get, refl, ap, sym, subst, ◌∙◌, arith, length-append}
use Rattle.std.proofs.lemmas.Bool.{cases_lt, and_parts, eqb-true, true_from_ne_false}
use Rattle.std.proofs.{lemmas.List.append-nil, lemmas.List.append_assoc, lemmas.List.length-map, lemmas.Option.get_or_from_slice_get}
use Rattle.mc_protocol.specs.Legal.{class_of, is_legal, is_fit_for}
use Rattle.mc_protocol.specs.{declared.reply.Class.Class, declared.reply.Reply.Reply, declared.request.Verb.Verb}
use Rattle.mc_protocol.specs.declared.actor.Actor.TheVariants as actor
use Rattle.mc_protocol.specs.declared.reply.Class.TheVariants as class
use Rattle.mc_protocol.specs.declared.request.Verb.TheVariants as verb
use Rattle.mc_script.specs.declared.step.Template.{Template}
use Rattle.mc_code.specs.Calls.{IsCalling, MakesAll, exchange_of, template_of, no_template}
use Rattle.mc_code.specs.{Code.Code, Code.instructions_in, Paths.entry_of, Paths.Slides, Runs.Exchange, Standing.StandsAt, Standing.ComesTo, States.Tagged}
use Rattle.mc_code.specs.{States.State, States.initial_state, States.after_reply, States.ended, declared.instr.Call.Call, declared.instr.Instr.Instr}
use Rattle.mc_code.specs.Runs as runs
use Rattle.mc_code.specs.declared.instr.Instr.TheVariants as instr
use Rattle.mc_code.proofs.{LookUps.some_is, RunLemmas.run_sends, RunLemmas.ended_at_halt, Stopping.StopsAt, Stopping.one_stop}
use Rattle.mc_sound.specs.{Faults.IsSound, Clearing.is_delete, Clearing.is_delete_of, Clearing.clears_at}
use Rattle.mc_sound.specs.declared.refusal_kind.RefusalKind.TheVariants as kind

-- ---- an instruction that clears

-- the send at this place deletes the key with the place's number, and goes on to the next place
pub record ClearsAt (c : Code) (place : ℕ) : Type 0 where
  pub n : ℕ
  pub next : List ℕ
  pub t : Template
  pub at : slice_get (instructions_in c actor.P) place ≡ Some (instr.Send n next)
  pub named : slice_get c.templates n ≡ Some t
  pub verb : t.verb ≡ verb.Delete
  pub key : t.key ≡ place
  pub deleted : entry_of next class.Deleted ≡ place + 1
  pub not_found : entry_of next class.NotFound ≡ place + 1

delete_is : (v : Verb) → is_delete v ≡ true → v ≡ verb.Delete
delete_is verb.Delete e = refl
delete_is _ e = absurd (cc)

pub clears_there : (c : Code) (place : ℕ) → IsSound c → place < length c.keys → ClearsAt c place
clears_there c place sound inside =
    by_instr (slice_get (instructions_in c actor.P) place) refl (true_from_ne_false _ (λ not. sound kind.NotCleared actor.P place (inside, not)))
  where
    by_template : (n : ℕ) (next : List ℕ) (o : Option Template) → slice_get (instructions_in c actor.P) place ≡ Some (instr.Send n next)
        → slice_get c.templates n ≡ o
        → (is_delete_of place o && (entry_of next class.Deleted == place + 1) && (entry_of next class.NotFound == place + 1)) ≡ true
        → ClearsAt c place
    by_template n next o at named clears =
        let all = and_parts (is_delete_of place o && (entry_of next class.Deleted == place + 1)) _ clears in
        let two = and_parts (is_delete_of place o) _ all.0 in
        by_test o named two.0 (eqb-true _ _ two.1) (eqb-true _ _ all.1)
      where
        by_test : (o : Option Template) → slice_get c.templates n ≡ o → is_delete_of place o ≡ true → entry_of next class.Deleted ≡ place + 1
            → entry_of next class.NotFound ≡ place + 1 → ClearsAt c place
        by_test None named deletes deleted not_found = absurd (cc)
        by_test (Some t) named deletes deleted not_found =
            let parts = and_parts (is_delete t.verb) (t.key == place) deletes in record {
              n = n;
              next = next;
              t = t;
              at = at;
              named = named;
              verb = delete_is t.verb parts.0;
              key = eqb-true t.key place parts.1;
              deleted = deleted;
              not_found = not_found;
            }

    by_instr : (o : Option Instr) → slice_get (instructions_in c actor.P) place ≡ o → clears_at c.templates place o ≡ true → ClearsAt c place
    by_instr (Some (instr.Send n next)) at clears = by_template n next (slice_get c.templates n) at refl clears
    by_instr _ at clears = absurd (cc)

-- ---- where P stands

stops_at_send : (section : List Instr) (p n : ℕ) (next : List ℕ) → slice_get section p ≡ Some (instr.Send n next) → StopsAt section p
stops_at_send section p n next at i q here leads = subst (λ i. Slides i p q) (some_is i (instr.Send n next) (sym here ∙ at)) leads

stops_at_halt : (section : List Instr) (p : ℕ) → slice_get section p ≡ Some instr.Halt → StopsAt section p
stops_at_halt section p at i q here leads = subst (λ i. Slides i p q) (some_is i instr.Halt (sym here ∙ at)) leads

-- after as many exchanges as there are keys, or fewer, P stands at the place of that number
abbrev pub StandsInFront : Code → List Tagged → List Exchange → Type 0
StandsInFront c variables before =
    length before ≤ length c.keys → (st : State) × StandsAt c actor.P variables before (length before) st

-- the call deletes the key with this number
pub record IsClearing (c : Code) (key : ℕ) (made : Call) : Type 0 where
  pub verb : (template_of c made).verb ≡ verb.Delete
  pub key_is : (template_of c made).key ≡ key

send_is : (m n : ℕ) (xs ys : List ℕ) → Some (instr.Send m xs) ≡ Some (instr.Send n ys) → (m ≡ n) × (xs ≡ ys)
send_is m n xs ys e = (cc, cc)

-- the call that P makes there, and where its reply leads
pub record CallsInFront (c : Code) (variables : List Tagged) (before : List Exchange) (made : Call) : Type 0 where
  pub clearing : IsClearing c (length before) made
  pub after : (reply : Reply) → is_fit_for (template_of c made).verb reply ≡ true
      → (st : State) × StandsAt c actor.P variables (before ++ exchange_of c (made, reply) ∷ []) (length before + 1) st

deletion_leads : (next : List ℕ) (place : ℕ) (x : Class) → entry_of next class.Deleted ≡ place → entry_of next class.NotFound ≡ place
    → is_legal verb.Delete x ≡ true → entry_of next x ≡ place
deletion_leads next place class.Deleted e f legal = e
deletion_leads next place class.NotFound e f legal = f
deletion_leads next place _ e f legal = absurd (cc)

pub calls_in_front : (c : Code) (variables : List Tagged) (before : List Exchange) (made : Call) → IsSound c
    → StandsInFront c variables before → length before < length c.keys → IsCalling c actor.P variables before made
    → CallsInFront c variables before made
calls_in_front c variables before made sound stands inside calling = record {
  clearing = record { verb = ap (λ (t : Template). t.verb) same_t ∙ there.verb; key_is = ap (λ (t : Template). t.key) same_t ∙ there.key };
  after = after;
}
  where
    place : ℕ
    place = length before

    section : List Instr
    section = instructions_in c actor.P

    there : ClearsAt c place
    there = clears_there c place sound inside

    here : (st : State) × StandsAt c actor.P variables before place st
    here = stands (omega (arith, inside))

    same : (place ≡ calling.p) × (here.0 ≡ calling.st)
    same =
        one_stop c.templates section here.1 (stops_at_send section place there.n there.next there.at) calling.p calling.st calling.stands
        (stops_at_send section calling.p made.template calling.next calling.sends)

    sends : (there.n ≡ made.template) × (there.next ≡ calling.next)
    sends = send_is there.n made.template there.next calling.next (sym there.at ∙ ap (slice_get section) same.0 ∙ calling.sends)

    same_t : template_of c made ≡ there.t
    same_t =
        get_or_from_slice_get c.templates made.template there.t no_template (ap (slice_get c.templates) (sym sends.0) ∙ there.named)

    after : (reply : Reply) → is_fit_for (template_of c made).verb reply ≡ true
        → (st : State) × StandsAt c actor.P variables (before ++ exchange_of c (made, reply) ∷ []) (place + 1) st
    after reply fit =
        let t = template_of c made in
        let legal : is_legal t.verb (class_of reply) ≡ true = (and_parts (is_legal t.verb (class_of reply)) _ fit).0 in
        let of_delete : is_legal verb.Delete (class_of reply) ≡ true =
        subst (λ v. is_legal v (class_of reply) ≡ true) (ap (λ (t : Template). t.verb) same_t ∙ there.verb) legal in
        let leads = deletion_leads there.next (place + 1) (class_of reply) there.deleted there.not_found of_delete in
        let named : slice_get c.templates there.n ≡ Some t = there.named ∙ ap Some (sym same_t) in
        (after_reply t reply here.0, run_sends here.1 (instr.Send there.n there.next) t reply there.at (named, legal, sym leads) fit)

-- ---- all calls of P

-- those with a number below that of keys delete them
abbrev pub FrontClears : Code → ℕ → List (Call × Reply) → Type 0
FrontClears c k [] = Unit {0}
FrontClears c k ((made, reply) ∷ pairs) = (k < length c.keys → IsClearing c k made) × FrontClears c (k + 1) pairs

grown_stands : (c : Code) (variables : List Tagged) (before : List Exchange) (made : Call) (reply : Reply) → IsSound c
    → StandsInFront c variables before → IsCalling c actor.P variables before made → is_fit_for (template_of c made).verb reply ≡ true
    → StandsInFront c variables (before ++ exchange_of c (made, reply) ∷ [])
grown_stands c variables before made reply sound stands calling fit few =
    let x = exchange_of c (made, reply) in
    let one = length-append before (x ∷ []) in
    let grown : length (before ++ x ∷ []) ≡ length before + 1 = omega (arith, one) in
    let inside : length before < length c.keys = omega (arith, few, grown) in
    let next = (calls_in_front c variables before made sound stands inside calling).after reply fit in
    (next.0, subst (λ p. StandsAt c actor.P variables (before ++ x ∷ []) p next.0) (sym grown) next.1)

front_along : (c : Code) (variables : List Tagged) (before : List Exchange) (pairs : List (Call × Reply)) → IsSound c
    → StandsInFront c variables before → MakesAll c actor.P variables before pairs
    → FrontClears c (length before) pairs × StandsInFront c variables (before ++ map (exchange_of c) pairs)
front_along c variables before [] sound stands makes = (tt, subst (StandsInFront c variables) (sym (append-nil before)) stands)
front_along c variables before ((made, reply) ∷ pairs) sound stands makes =
    let x = exchange_of c (made, reply) in
    let one = length-append before (x ∷ []) in
    let grown : length (before ++ x ∷ []) ≡ length before + 1 = omega (arith, one) in
    let rest = front_along c variables (before ++ x ∷ []) pairs sound (grown_stands c variables before made reply sound stands makes.0 makes.1) makes.2 in (
      (
        λ inside. (calls_in_front c variables before made sound stands inside makes.0).clearing,
        subst (λ k. FrontClears c k pairs) grown rest.0,
      ),
      subst (StandsInFront c variables) (append_assoc before (x ∷ []) (map (exchange_of c) pairs)) rest.1,
    )

starts_in_front : (c : Code) (variables : List Tagged) → StandsInFront c variables []
starts_in_front c variables few = (initial_state variables, runs.rests)

pub front_clears : (c : Code) (variables : List Tagged) (pairs : List (Call × Reply)) → IsSound c → MakesAll c actor.P variables [] pairs
    → FrontClears c 0 pairs
front_clears c variables pairs sound makes = (front_along c variables [] pairs sound (starts_in_front c variables) makes).0

pub stands_in_front : (c : Code) (variables : List Tagged) (pairs : List (Call × Reply)) → IsSound c → MakesAll c actor.P variables [] pairs
    → StandsInFront c variables (map (exchange_of c) pairs)
stands_in_front c variables pairs sound makes = (front_along c variables [] pairs sound (starts_in_front c variables) makes).1

-- P isn't done before it has deleted all keys
pub done_cleared : (c : Code) (variables : List Tagged) (pairs : List (Call × Reply)) (st : State) → IsSound c
    → MakesAll c actor.P variables [] pairs
    → ComesTo c actor.P variables (map (exchange_of c) pairs) st ended → length c.keys ≤ length pairs
done_cleared c variables pairs st sound makes (p, stands, met) = by_order (cases_lt (length exchanges) (length c.keys))
  where
    exchanges : List Exchange
    exchanges = map (exchange_of c) pairs

    section : List Instr
    section = instructions_in c actor.P

    by_order : (length exchanges < length c.keys) ⊎ (length c.keys ≤ length exchanges) → length c.keys ≤ length pairs
    by_order (inr all) = let mapped = length-map pairs (exchange_of c) in omega (arith, all, mapped)
    by_order (inl inside) =
        let there = clears_there c (length exchanges) sound inside in
        let here = stands_in_front c variables pairs sound makes (omega (arith, inside)) in
        let halt = ended_at_halt c.templates (slice_get section p) st met in
        let same = one_stop c.templates section here.1 (stops_at_send section (length exchanges) there.n there.next there.at) p st stands
        (stops_at_halt section p halt) in
        let clash : Some (instr.Send there.n there.next) ≡ Some instr.Halt = sym there.at ∙ ap (slice_get section) same.0 ∙ halt in
        absurd (cc)
