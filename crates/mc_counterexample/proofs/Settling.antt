-- Where a section comes to without a reply, and by one more reply.
use Rattle.std.proofs.Common.{◌≡◌, ℕ, ◌<◌, ◌≤◌, Bool, true, false, Some, List, [], ◌∷◌, slice_get, refl, ap, sym, subst, ◌∙◌, arith}
use Rattle.mc_protocol.specs.{Legal.is_legal, declared.actor.Actor.Actor, declared.reply.Class.Class}
use Rattle.mc_protocol.specs.declared.actor.Actor.TheVariants as actor
use Rattle.mc_script.specs.declared.step.Template.{Template}
use Rattle.mc_code.specs.{Calls.SendsAt, Code.Code, Code.instructions_in, Paths.Edge, Paths.Slides, Paths.Sends, Paths.sends, RunLaws.edges_of, Runs.Exchange}
use Rattle.mc_code.specs.{Runs.IsRun, States.initial_state, declared.instr.Instr.Instr}
use Rattle.mc_code.specs.declared.instr.Instr.TheVariants as instr
use Rattle.mc_code.proofs.PathLemmas.{IsKept, kept_along, path_append, path_slides, path_first}
use Rattle.mc_code.proofs.{LookUps.some_is, RunLemmas.path_run, RunLemmas.AreOfRun, Stopping.slides_or_sends, Stopping.one_stop}
use Rattle.mc_sound.specs.Faults.{IsStructured}
use Rattle.mc_counterexample.specs.Replays.{LeadsBetween, SlidesAt, RestsAt, IsAnswered, Ends}
use Rattle.mc_sound.proofs.Structured.{structured_slides, structured_sends}

-- ---- where a section rests

pub sends_rest : (c : Code) (actor : Actor) (place : ℕ) (i : Instr) (t : Template) (class : Class) (other : ℕ)
    → slice_get (instructions_in c actor) place ≡ Some i → Sends c.templates i t class other → RestsAt c actor place
sends_rest c actor place i t class other at leads q (j, at_j, on) =
    slides_or_sends c.templates i place q other t class (subst (λ i. Slides i place q) (some_is j i (sym at_j ∙ at)) on) leads

-- a send at the place is one, and the section rests there
pub sends_rest_at : (c : Code) (actor : Actor) (place : ℕ) (t : Template) → SendsAt c actor place t → RestsAt c actor place
sends_rest_at c actor place t (n, next, at, named) q (j, at_j, on) =
    subst (λ i. Slides i place q) (some_is j (instr.Send n next) (sym at_j ∙ at)) on

same_index : (n m : ℕ) (next others : List ℕ) → Some (instr.Send n next) ≡ Some (instr.Send m others) → n ≡ m
same_index n m next others e = cc

pub sends_once_at : (c : Code) (actor : Actor) (place n : ℕ) (next : List ℕ) (t u : Template) → SendsAt c actor place t
    → slice_get (instructions_in c actor) place ≡ Some (instr.Send n next) → slice_get c.templates n ≡ Some u → t ≡ u
sends_once_at c actor place n next t u (m, others, at_m, named_m) at named =
    let index = same_index m n others next (sym at_m ∙ at) in
    some_is t u (sym named_m ∙ ap (slice_get c.templates) index ∙ named)

pub halt_rests : (c : Code) (actor : Actor) (place : ℕ) → slice_get (instructions_in c actor) place ≡ Some instr.Halt → RestsAt c actor place
halt_rests c actor place at q (j, at_j, on) = subst (λ i. Slides i place q) (some_is j instr.Halt (sym at_j ∙ at)) on

no_exchanges : (xs : List Exchange) → edges_of xs ≡ [] → xs ≡ []
no_exchanges [] e = refl
no_exchanges (x ∷ xs) e = absurd (cc)

-- a section comes to one place without a reply, and no further
pub rests_once : (c : Code) (actor : Actor) (p q r : ℕ) → LeadsBetween c actor p [] q → LeadsBetween c actor p [] r → RestsAt c actor q → RestsAt c actor r
    → q ≡ r
rests_once c actor p q r to_q to_r rests_q rests_r =
    let section = instructions_in c actor in
    let st = initial_state [] in
    let first : AreOfRun c.templates section p st [] q = path_run c.templates section 0 to_q st in
    let second : AreOfRun c.templates section p st [] r = path_run c.templates section 0 to_r st in
    let one = subst (λ xs. IsRun c.templates section p st xs q first.1) (no_exchanges first.0 first.3) first.2 in
    let other = subst (λ xs. IsRun c.templates section p st xs r second.1) (no_exchanges second.0 second.3) second.2 in
    (one_stop c.templates section one (λ i s at on. rests_q s (i, at, on)) r second.1 other (λ i s at on. rests_r s (i, at, on))).0

-- ---- one more reply

pub sends_same : (templates : List Template) (i : Instr) (t u : Template) (class : Class) (q r : ℕ) → Sends templates i t class q
    → Sends templates i u class r → (t ≡ u) × (q ≡ r)
sends_same templates (instr.Send n next) t u class q r e f = (some_is t u (sym e.0 ∙ f.0), e.2 ∙ sym f.2)
sends_same templates (instr.Bind v) t u class q r e f = absurd e
sends_same templates (instr.Goto place) t u class q r e f = absurd e
sends_same templates instr.Halt t u class q r e f = absurd e

-- a reply of the class answers one send, and leads to one place
pub answered_once : (c : Code) (actor : Actor) (place : ℕ) (t u : Template) (class : Class) (q r : ℕ) → IsAnswered c actor place t class q
    → IsAnswered c actor place u class r → (t ≡ u) × (q ≡ r)
answered_once c actor place t u class q r x y =
    let rests_x = sends_rest c actor x.sent_at x.i t class q x.at x.leads in
    let rests_y = sends_rest c actor y.sent_at y.i u class r y.at y.leads in
    let here = rests_once c actor place x.sent_at y.sent_at x.slides_there y.slides_there rests_x rests_y in
    let same = some_is x.i y.i (sym x.at ∙ ap (slice_get (instructions_in c actor)) here ∙ y.at) in
    sends_same c.templates y.i t u class q r (subst (λ i. Sends c.templates i t class q) same x.leads) y.leads

-- where the section goes by a path with an edge, it has the edge's reply
pub answered_first : (c : Code) (actor : Actor) (p r : ℕ) (edge : Edge) (edges : List Edge) → LeadsBetween c actor p (edge ∷ edges) r
    → (other : ℕ) × IsAnswered c actor p edge.0 edge.1 other × LeadsBetween c actor other edges r
answered_first c actor p r edge edges path =
    let first = path_first c.templates (instructions_in c actor) edge edges path refl in (
      first.led_to,
      record { sent_at = first.sent_at; i = first.i; slides_there = first.slides_there; at = first.at; leads = first.leads },
      first.more,
    )

pub answered_then : (c : Code) (actor : Actor) (p q r : ℕ) (t : Template) (class : Class) (edges : List Edge) → IsAnswered c actor p t class q
    → LeadsBetween c actor q edges r → LeadsBetween c actor p ((t, class) ∷ edges) r
answered_then c actor p q r t class edges x more = path_append x.slides_there (sends x.i x.at x.leads more)

no_send_at_halt : (templates : List Template) (i : Instr) (t : Template) (class : Class) (q : ℕ) → instr.Halt ≡ i → Sends templates i t class q → ⊥
no_send_at_halt templates i t class q is leads = subst (λ i. Sends templates i t class q) (sym is) leads

-- where P comes to its end without a reply, it has none
pub ends_alone : (c : Code) (place q : ℕ) (edges : List Edge) → Ends c place → LeadsBetween c actor.P place edges q → edges ≡ []
ends_alone c place q [] (end, to_end, halt) path = refl
ends_alone c place q (edge ∷ edges) (end, to_end, halt) path =
    let x = (answered_first c actor.P place q edge edges path).1 in
    let rests = sends_rest c actor.P x.sent_at x.i edge.0 edge.1 _ x.at x.leads in
    let here = rests_once c actor.P place end x.sent_at to_end x.slides_there (halt_rests c actor.P end halt) rests in
    let same = some_is instr.Halt x.i (sym halt ∙ ap (slice_get (instructions_in c actor.P)) here ∙ x.at) in
    absurd (no_send_at_halt c.templates x.i edge.0 edge.1 _ same x.leads)

-- ---- from where a section rests

-- a reply answers the send at which the section rests, if it is one
pub answered_at : (c : Code) (actor : Actor) (place rest : ℕ) (i : Instr) (t : Template) (class : Class) (other : ℕ)
    → LeadsBetween c actor place [] rest → RestsAt c actor rest → slice_get (instructions_in c actor) rest ≡ Some i
    → IsAnswered c actor place t class other → Sends c.templates i t class other
answered_at c actor place rest i t class other slid rests at x =
    let there = sends_rest c actor x.sent_at x.i t class other x.at x.leads in
    let here = rests_once c actor place x.sent_at rest x.slides_there slid there rests in
    let same = some_is x.i i (sym x.at ∙ ap (slice_get (instructions_in c actor)) here ∙ at) in
    subst (λ i. Sends c.templates i t class other) same x.leads

pub ends_at : (c : Code) (place rest : ℕ) → LeadsBetween c actor.P place [] rest → RestsAt c actor.P rest → Ends c place
    → slice_get (instructions_in c actor.P) rest ≡ Some instr.Halt
ends_at c place rest slid rests (end, to_end, halt) =
    let here = rests_once c actor.P place end rest to_end slid (halt_rests c actor.P end halt) rests in
    ap (slice_get (instructions_in c actor.P)) (sym here) ∙ halt

pub slides_on : (c : Code) (actor : Actor) (p q r : ℕ) → LeadsBetween c actor p [] q → SlidesAt c actor q r → LeadsBetween c actor p [] r
slides_on c actor p q r slid (i, at, leads) = path_slides slid i at leads

pub no_other_send : (templates : List Template) (i : Instr) (t : Template) (class : Class) (q : ℕ) → ((n : ℕ) (next : List ℕ) → i ≡ instr.Send n next → ⊥)
    → Sends templates i t class q → ⊥
no_other_send templates (instr.Send n next) t class q never leads = never n next refl
no_other_send templates (instr.Bind v) t class q never leads = leads
no_other_send templates (instr.Goto place) t class q never leads = leads
no_other_send templates instr.Halt t class q never leads = leads

-- where the section rests elsewhere than at a send, nothing is answered
pub unanswered_at : (c : Code) (actor : Actor) (place rest : ℕ) (i : Instr) → LeadsBetween c actor place [] rest → RestsAt c actor rest
    → slice_get (instructions_in c actor) rest ≡ Some i → ((n : ℕ) (next : List ℕ) → i ≡ instr.Send n next → ⊥)
    → (t : Template) (class : Class) (other : ℕ) → IsAnswered c actor place t class other → ⊥
unanswered_at c actor place rest i slid rests at never t class other x =
    no_other_send c.templates i t class other never (answered_at c actor place rest i t class other slid rests at x)

-- nor where the send's verb has no reply of the class
pub illegal_at : (c : Code) (actor : Actor) (place rest n : ℕ) (next : List ℕ) (u : Template) (legal : Bool) (class : Class)
    → LeadsBetween c actor place [] rest → RestsAt c actor rest → slice_get (instructions_in c actor) rest ≡ Some (instr.Send n next)
    → slice_get c.templates n ≡ Some u → legal ≡ is_legal u.verb class → legal ≡ false
    → (t : Template) (other : ℕ) → IsAnswered c actor place t class other → ⊥
illegal_at c actor place rest n next u legal class slid rests at named is isnt t other x =
    let leads = answered_at c actor place rest (instr.Send n next) t class other slid rests at x in
    let same = some_is t u (sym leads.0 ∙ named) in
    let clash : true ≡ false = sym leads.1 ∙ ap (λ (t : Template). is_legal t.verb class) same ∙ sym is ∙ isnt in
    absurd (cc)

-- ---- later places

pub path_later : (c : Code) (actor : Actor) → IsStructured c actor → (p q : ℕ) (edges : List Edge) → LeadsBetween c actor p edges q → p ≤ q
path_later c actor structured p q edges path =
    let section = instructions_in c actor in
    let after : ℕ → Edge → ℕ = λ v edge. v in
    let H : ℕ → ℕ → Type 0 = λ q v. p ≤ q in
    let kept : IsKept c.templates section after H = record {
      slid = λ i r s v at leads h. let later = (structured_slides c actor structured i r s at leads).0 in omega (arith, later, h);
      sent = λ i r s v t cl at leads h. let later = (structured_sends c actor structured i r s t cl at leads).0 in omega (arith, later, h);
    } in
    kept_along c.templates section after H kept 0 path (omega arith)

-- a reply leads to a later place
pub answered_later : (c : Code) (actor : Actor) → IsStructured c actor → (p q : ℕ) (t : Template) (class : Class) → IsAnswered c actor p t class q → p < q
answered_later c actor structured p q t class x =
    let there = path_later c actor structured p x.sent_at [] x.slides_there in
    let later = (structured_sends c actor structured x.i x.sent_at q t class x.at x.leads).0 in
    omega (arith, there, later)
