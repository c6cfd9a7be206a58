-- Two runs by the same exchanges that stop are at one place, in one state.
use Rattle.std.proofs.Common.{◌≡◌, ℕ, Bool, true, false, Some, None, List, [], ◌∷◌, slice_get, refl, ap, sym, subst, ◌∙◌, if◌then◌else◌}
use Rattle.mc_protocol.specs.{Legal.class_of, Legal.is_fit_for, declared.reply.Class.Class, declared.reply.Reply.Reply}
use Rattle.mc_script.specs.declared.step.Template.{Template}
use Rattle.mc_code.specs.Runs.{Exchange, after_slide, IsRun, rests, slides, sends, met_at}
use Rattle.mc_code.specs.States.{State, after_reply, Outcome, nothing_to_bind, is_number}
use Rattle.mc_code.specs.{declared.instr.Instr.Instr, Code.instructions_in, Paths.Slides, Paths.Sends, RunLaws.stops, RunLaws.StopsOnce}
use Rattle.mc_code.specs.declared.instr.Instr.TheVariants as instr
use Rattle.mc_protocol.proofs.FirstItems.{head_is, rest_is}
use Rattle.mc_code.proofs.LookUps.{some_is}

-- no instruction leads on from the place without a reply
abbrev pub StopsAt : List Instr → ℕ → Type 0
StopsAt section p = (i : Instr) (q : ℕ) → slice_get section p ≡ Some i → Slides i p q → ⊥

stops_at : (templates : List Template) (section : List Instr) (p : ℕ) (st : State) (outcome : Outcome)
    → met_at templates (slice_get section p) st ≡ Some outcome → stops outcome ≡ true → StopsAt section p
stops_at templates section p st outcome met no_bind i q at leads = by_instr i (ap (λ o. met_at templates o st) (sym at) ∙ met) leads
  where
    by_number : (v : ℕ) (b : Bool) → (if b then None else Some (nothing_to_bind v)) ≡ Some outcome → ⊥
    by_number v true e = absurd (cc)
    by_number v false e = let same : stops (nothing_to_bind v) ≡ true = ap stops (some_is (nothing_to_bind v) outcome e) ∙ no_bind in absurd (cc)

    by_instr : (i : Instr) → met_at templates (Some i) st ≡ Some outcome → Slides i p q → ⊥
    by_instr (instr.Send n next) met leads = leads
    by_instr (instr.Bind v) met leads = by_number v (is_number st.last.0) met
    by_instr (instr.Goto place) met leads = absurd (cc)
    by_instr instr.Halt met leads = leads

-- ---- moves lead to one place

pub slides_once : (i : Instr) (p q r : ℕ) → Slides i p q → Slides i p r → q ≡ r
slides_once (instr.Send n next) p q r e f = absurd e
slides_once (instr.Bind v) p q r e f = e ∙ sym f
slides_once (instr.Goto place) p q r e f = e ∙ sym f
slides_once instr.Halt p q r e f = absurd e

pub sends_once : (templates : List Template) (i : Instr) (t : Template) (c : Class) (q r : ℕ) → Sends templates i t c q → Sends templates i t c r → q ≡ r
sends_once templates (instr.Send n next) t c q r e f = e.2 ∙ sym f.2
sends_once templates (instr.Bind v) t c q r e f = absurd e
sends_once templates (instr.Goto place) t c q r e f = absurd e
sends_once templates instr.Halt t c q r e f = absurd e

pub slides_or_sends : (templates : List Template) (i : Instr) (p q r : ℕ) (t : Template) (c : Class) → Slides i p q → Sends templates i t c r → ⊥
slides_or_sends templates (instr.Send n next) p q r t c e f = e
slides_or_sends templates (instr.Bind v) p q r t c e f = f
slides_or_sends templates (instr.Goto place) p q r t c e f = f
slides_or_sends templates instr.Halt p q r t c e f = e

-- ---- the first move of a run

pub data RunBegins (templates : List Template) (section : List Instr) (p : ℕ) (st : State) (exchanges : List Exchange) (r : ℕ) (end : State) : Type 0 where
  rested : p ≡ r → st ≡ end → exchanges ≡ [] → RunBegins templates section p st exchanges r end
  slid_first : (i : Instr) (q : ℕ) → slice_get section p ≡ Some i → Slides i p q → IsRun templates section q (after_slide i st) exchanges r end
      → RunBegins templates section p st exchanges r end
  sent_first : (i : Instr) (q : ℕ) (t : Template) (given : Reply) (rest : List Exchange) → slice_get section p ≡ Some i
      → Sends templates i t (class_of given) q → is_fit_for t.verb given ≡ true → IsRun templates section q (after_reply t given st) rest r end
      → exchanges ≡ (t, given) ∷ rest → RunBegins templates section p st exchanges r end

pub run_begins : {templates : List Template} {section : List Instr} {p r : ℕ} {st end : State} {exchanges : List Exchange}
    → IsRun templates section p st exchanges r end → RunBegins templates section p st exchanges r end
run_begins rests = rested refl refl refl
run_begins (slides {q = q} i at leads run) = slid_first i q at leads run
run_begins (sends {q = q} {exchanges = exchanges} {t = t} {reply = given} i at leads fit run) = sent_first i q t given exchanges at leads fit run refl

-- ---- two runs

-- the same place and state
abbrev IsSame : ℕ → ℕ → State → State → Type 0
IsSame q r st end = (q ≡ r) × (st ≡ end)

-- what the first run comes to, each other comes to
abbrev IsOnlyStop : List Template → List Instr → ℕ → State → List Exchange → ℕ → State → Type 0
IsOnlyStop templates section p st exchanges q mid =
    (r : ℕ) (end : State) → IsRun templates section p st exchanges r end → StopsAt section r → IsSame q r mid end

when_rested : (templates : List Template) (section : List Instr) (p : ℕ) (st : State) → StopsAt section p → (r : ℕ) (end : State)
    → RunBegins templates section p st [] r end → IsSame p r st end
when_rested templates section p st stop r end (rested e f g) = (e, f)
when_rested templates section p st stop r end (slid_first i q at leads run) = absurd (stop i q at leads)
when_rested templates section p st stop r end (sent_first i q t given rest at leads fit run is) = absurd (cc)

when_slid : (templates : List Template) (section : List Instr) (i : Instr) (p q s : ℕ) (st mid : State) (exchanges : List Exchange)
    → slice_get section p ≡ Some i → Slides i p q → IsOnlyStop templates section q (after_slide i st) exchanges s mid
    → (r : ℕ) (end : State) → StopsAt section r
    → RunBegins templates section p st exchanges r end → IsSame s r mid end
when_slid templates section i p q s st mid exchanges at leads comes r end stop (rested e f g) =
    absurd (stop i q (ap (slice_get section) (sym e) ∙ at) (subst (λ p. Slides i p q) e leads))
when_slid templates section i p q s st mid exchanges at leads comes r end stop (slid_first j t there on run) =
    let same : j ≡ i = some_is j i (sym there ∙ at) in
    let place : t ≡ q = slides_once i p t q (subst (λ i. Slides i p t) same on) leads in
    let moved = subst (λ i. IsRun templates section t (after_slide i st) exchanges r end) same run in
    comes r end (subst (λ q. IsRun templates section q (after_slide i st) exchanges r end) place moved) stop
when_slid templates section i p q s st mid exchanges at leads comes r end stop (sent_first j u t given rest there on fit run is) =
    let same : j ≡ i = some_is j i (sym there ∙ at) in
    absurd (slides_or_sends templates i p q u t (class_of given) leads (subst (λ i. Sends templates i t (class_of given) u) same on))

when_sent : (templates : List Template) (section : List Instr) (i : Instr) (p q s : ℕ) (st mid : State) (t : Template) (given : Reply)
    (exchanges : List Exchange)
    → slice_get section p ≡ Some i → Sends templates i t (class_of given) q → IsOnlyStop templates section q (after_reply t given st) exchanges s mid
    → (r : ℕ) (end : State) → StopsAt section r → RunBegins templates section p st ((t, given) ∷ exchanges) r end → IsSame s r mid end
when_sent templates section i p q s st mid t given exchanges at leads comes r end stop (rested e f g) = absurd (cc)
when_sent templates section i p q s st mid t given exchanges at leads comes r end stop (slid_first j u there on run) =
    let same : j ≡ i = some_is j i (sym there ∙ at) in
    absurd (slides_or_sends templates i p u q t (class_of given) (subst (λ i. Slides i p u) same on) leads)
when_sent templates section i p q s st mid t given exchanges at leads comes r end stop (sent_first j u t' given' rest there on fit run is) =
    let same : j ≡ i = some_is j i (sym there ∙ at) in
    let exchange = sym (head_is (t, given) (t', given') exchanges rest is) in
    let others = sym (rest_is (t, given) (t', given') exchanges rest is) in
    let sent : Sends templates i t (class_of given) u =
    subst (λ (a : Exchange). Sends templates i a.0 (class_of a.1) u) exchange (subst (λ i. Sends templates i t' (class_of given') u) same on) in
    let place : u ≡ q = sends_once templates i t (class_of given) u q sent leads in
    let first = subst (λ (a : Exchange). IsRun templates section u (after_reply a.0 a.1 st) rest r end) exchange run in
    let more = subst (λ l. IsRun templates section u (after_reply t given st) l r end) others first in
    comes r end (subst (λ q. IsRun templates section q (after_reply t given st) exchanges r end) place more) stop

pub one_stop : (templates : List Template) (section : List Instr) → {p q : ℕ} {st mid : State} {exchanges : List Exchange}
    → IsRun templates section p st exchanges q mid → StopsAt section q → IsOnlyStop templates section p st exchanges q mid
one_stop templates section (rests {p = p} {st = st}) stop r end run halt = when_rested templates section p st stop r end (run_begins run)
one_stop templates section (slides {p = p} {q = q} {r = s} {st = st} {st' = mid} {exchanges = exchanges} i at leads more) stop r end run halt =
    when_slid templates section i p q s st mid exchanges at leads (one_stop templates section more stop) r end halt (run_begins run)
one_stop templates section (sends {p = p} {q = q} {r = s} {st = st} {st' = mid} {exchanges = exchanges} {t = t} {reply = given} i at leads fit more)
    stop r end run halt =
    when_sent templates section i p q s st mid t given exchanges at leads (one_stop templates section more stop) r end halt (run_begins run)

pub stop_once : StopsOnce
stop_once c actor variables exchanges st st' outcome outcome' (p, run, met) (q, run', met') stop stop' =
    let section = instructions_in c actor in
    let here = stops_at c.templates section p st outcome met stop in
    let there = stops_at c.templates section q st' outcome' met' stop' in
    let same = one_stop c.templates section run here q st' run' there in
    let place = ap (λ p. met_at c.templates (slice_get section p) st) same.0 in
    let state = ap (met_at c.templates (slice_get section q)) same.1 in
    (same.1, some_is outcome outcome' (sym met ∙ place ∙ state ∙ met'))
