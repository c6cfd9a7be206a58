-- The calls that a section makes, with their replies, are exchanges of a run.
use Rattle.std.proofs.Common.{◌≡◌, ℕ, zero, suc, Bool, true, false, ◌&&◌, Some, List, [], ◌∷◌, ◌++◌, map}
use Rattle.std.proofs.Common.{slice_get, slice_index_or, refl, ap, sym, subst, ◌∙◌, if◌then◌else◌}
use Rattle.std.proofs.lemmas.List.{append-nil, append_assoc}
use Rattle.mc_protocol.specs.{Legal.class_of, Legal.is_fit_for, declared.actor.Actor.Actor, declared.reply.Class.Class, declared.reply.Reply.Reply}
use Rattle.mc_script.specs.{declared.step.Argument.Argument, declared.step.Template.Template}
use Rattle.mc_script.specs.declared.step.Argument.TheVariants as argument
use Rattle.mc_code.specs.Calls.{IsCalling, MakesAll, exchange_of, template_of, no_template}
use Rattle.mc_code.specs.States.{Tagged, nothing, State, initial_state, after_reply, Outcome, call, wrong_kind}
use Rattle.mc_code.specs.States.{call_with, with_argument, send_outcome, wanted_by, is_same}
use Rattle.mc_code.specs.{declared.instr.Call.Call, declared.instr.Instr.Instr, Code.Code, Code.instructions_in, Paths.Sends, Paths.entry_of, Runs.Exchange}
use Rattle.mc_code.specs.{Runs.IsRun, Runs.met_at, Runs.met_by_send, Runs.rests, Runs.slides, Runs.sends, Standing.ComesTo, Standing.IsRightAlong}
use Rattle.mc_code.specs.{Standing.StandsAt, Standing.is_right, Standing.met_in, StandingLaws.CallsStand, StandingLaws.RightRunsAreCalled}
use Rattle.mc_code.specs.declared.instr.Instr.TheVariants as instr
use Rattle.mc_code.specs.declared.kind.Kind.TheVariants as kind
use Rattle.mc_code.proofs.{LookUps.some_is, RunLemmas.run_sends, RunLemmas.run_slides, StandingLemmas.template_is}

-- what is there is found, whatever stands for what isn't
found : {X : Type 0} (xs : List X) (i : ℕ) (x other : X) → slice_get xs i ≡ Some x → slice_index_or xs i other ≡ x
found [] i x other e = absurd (cc)
found (y ∷ xs) zero x other e = some_is y x e
found (y ∷ xs) (suc i) x other e = found xs i x other e

legal_is : (a b : Bool) → (a && b) ≡ true → a ≡ true
legal_is true b e = refl
legal_is false b e = absurd (cc)

-- the section stands there
abbrev Stands : Code → Actor → List Tagged → List Exchange → Type 0
Stands c actor variables exchanges = (p : ℕ) × (st : State) × StandsAt c actor variables exchanges p st

-- once the call is answered
call_stands : (c : Code) (actor : Actor) (variables : List Tagged) (before : List Exchange) (made : Call) (reply : Reply)
    → IsCalling c actor variables before made → is_fit_for (template_of c made).verb reply ≡ true
    → Stands c actor variables (before ++ exchange_of c (made, reply) ∷ [])
call_stands c actor variables before made reply x fit =
    let t = template_of c made in
    let named = template_is (slice_get c.templates made.template) x.st x.t made.number (ap (λ o. met_at c.templates o x.st) (sym x.sends) ∙ x.meets) in
    let same : t ≡ x.t = found c.templates made.template x.t no_template named in
    let there : slice_get c.templates made.template ≡ Some t = named ∙ ap Some (sym same) in (
      entry_of x.next (class_of reply),
      after_reply t reply x.st,
      run_sends x.stands (instr.Send made.template x.next) t reply x.sends (there, legal_is _ _ fit, refl) fit,
    )

all_stand : (c : Code) (actor : Actor) (variables : List Tagged) (before : List Exchange) (pairs : List (Call × Reply))
    → Stands c actor variables before → MakesAll c actor variables before pairs → Stands c actor variables (before ++ map (exchange_of c) pairs)
all_stand c actor variables before [] stands makes = subst (Stands c actor variables) (sym (append-nil before)) stands
all_stand c actor variables before ((made, reply) ∷ pairs) stands makes =
    let exchange = exchange_of c (made, reply) in
    let here = call_stands c actor variables before made reply makes.0 makes.1 in
    subst (Stands c actor variables) (append_assoc before (exchange ∷ []) (map (exchange_of c) pairs))
    (all_stand c actor variables (before ++ exchange ∷ []) pairs here makes.2)

pub calls_stand : CallsStand
calls_stand c actor variables pairs makes = all_stand c actor variables [] pairs (0, initial_state variables, rests) makes

-- ---- where nothing goes wrong

-- a send to which the section rightly comes is a call
right_send : (t : Template) (st : State) → is_right (send_outcome t st) ≡ true → (number : ℕ) × (send_outcome t st ≡ call t number)
right_send t st right = by_argument t.argument right
  where
    by_kind : (b : Bool) (m : ℕ) → is_right (if b then call t m else wrong_kind t) ≡ true
        → (number : ℕ) × ((if b then call t m else wrong_kind t) ≡ call t number)
    by_kind true m right = (m, refl)
    by_kind false m right = absurd (cc)

    by_given : (x : Tagged) → is_right (call_with t x) ≡ true → (number : ℕ) × (call_with t x ≡ call t number)
    by_given (kind.Unbound, m) right = absurd (cc)
    by_given (kind.Cas key, m) right = by_kind (is_same (kind.Cas key) (wanted_by t.verb t.key)) m right
    by_given (kind.Num, m) right = by_kind (is_same kind.Num (wanted_by t.verb t.key)) m right

    by_argument : (a : Argument) → is_right (with_argument t a st.variables) ≡ true → (number : ℕ) × (with_argument t a st.variables ≡ call t number)
    by_argument argument.Nothing right = (0, refl)
    by_argument (argument.Number number) right = (number, refl)
    by_argument (argument.Variable v) right = by_given (slice_index_or st.variables v nothing) right

-- the section is about to make a call of this template
abbrev IsCallingFor : Code → Actor → List Tagged → List Exchange → Template → Type 0
IsCallingFor c actor variables exchanges t = (made : Call) × IsCalling c actor variables exchanges made × (template_of c made ≡ t)

call_at : (c : Code) (actor : Actor) (variables : List Tagged) (before : List Exchange) (p q : ℕ) (st : State) (i : Instr) (t : Template) (class : Class)
    → StandsAt c actor variables before p st → slice_get (instructions_in c actor) p ≡ Some i → Sends c.templates i t class q
    → ((outcome : Outcome) → ComesTo c actor variables before st outcome → is_right outcome ≡ true) → IsCallingFor c actor variables before t
call_at c actor variables before p q st (instr.Send n next) t class stands at leads right =
    let met : met_in c actor p st ≡ Some (send_outcome t st) =
    ap (λ o. met_at c.templates o st) at ∙ ap (λ o. Some (met_by_send o st)) leads.0 in
    let sent = right_send t st (right (send_outcome t st) (p, stands, met)) in (
      record { template = n; number = sent.0 },
      record { p = p; st = st; t = t; next = next; stands = stands; sends = at; meets = met ∙ ap Some sent.1 },
      found c.templates n t no_template leads.0,
    )
call_at c actor variables before p q st (instr.Bind v) t class stands at leads right = absurd leads
call_at c actor variables before p q st (instr.Goto place) t class stands at leads right = absurd leads
call_at c actor variables before p q st instr.Halt t class stands at leads right = absurd leads

-- these exchanges are those of calls that the section makes after the ones before
abbrev AreCalled : Code → Actor → List Tagged → List Exchange → List Exchange → Type 0
AreCalled c actor variables before exchanges =
    (pairs : List (Call × Reply)) × MakesAll c actor variables before pairs × (map (exchange_of c) pairs ≡ exchanges)

called_first : (c : Code) (actor : Actor) (variables : List Tagged) (before : List Exchange) (t : Template) (reply : Reply) (rest : List Exchange)
    → IsCallingFor c actor variables before t → is_fit_for t.verb reply ≡ true → AreCalled c actor variables (before ++ (t, reply) ∷ []) rest
    → AreCalled c actor variables before ((t, reply) ∷ rest)
called_first c actor variables before t reply rest (made, calling, same) fit (pairs, makes, are) =
    let exchange : exchange_of c (made, reply) ≡ (t, reply) = ap (λ (t : Template). let exchange : Exchange = (t, reply) in exchange) same in (
      (made, reply) ∷ pairs,
      (
        calling,
        subst (λ (t : Template). is_fit_for t.verb reply ≡ true) (sym same) fit,
        subst (λ x. MakesAll c actor variables (before ++ x ∷ []) pairs) (sym exchange) makes,
      ),
      ap (λ x. x ∷ map (exchange_of c) pairs) exchange ∙ ap (λ l. (t, reply) ∷ l) are,
    )

called_along : (c : Code) (actor : Actor) (variables : List Tagged) (before : List Exchange) → {p q : ℕ} {st end : State} {rest : List Exchange}
    → IsRun c.templates (instructions_in c actor) p st rest q end → StandsAt c actor variables before p st → IsRightAlong c actor variables (before ++ rest)
    → AreCalled c actor variables before rest
called_along c actor variables before rests stands right = ([], tt, refl)
called_along c actor variables before (slides i at leads more) stands right =
    called_along c actor variables before more (run_slides stands i at leads) right
called_along c actor variables before (sends {p = p} {q = q} {st = st} {exchanges = rest} {t = t} {reply = reply} i at leads fit more) stands right =
    let whole = append_assoc before ((t, reply) ∷ []) rest in
    called_first c actor variables before t reply rest
    (call_at c actor variables before p q st i t (class_of reply) stands at leads
    (λ outcome comes. right before ((t, reply) ∷ rest) st outcome refl comes))
    fit
    (called_along c actor variables (before ++ (t, reply) ∷ []) more (run_sends stands i t reply at leads fit)
    (subst (IsRightAlong c actor variables) (sym whole) right))

pub right_runs_are_called : RightRunsAreCalled
right_runs_are_called c actor variables exchanges p st stands right = called_along c actor variables [] stands rests right
