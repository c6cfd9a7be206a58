-- A run of a script's code is one of the script.
use Rattle.std.proofs.Common.{◌≡◌, ◌⊎◌, inl, inr, ℕ, ◌+◌, Bool, true, false, Option, Some, None, List}
use Rattle.std.proofs.Common.{[], ◌∷◌, slice_get, refl, ap, sym, subst, ◌∙◌, if◌then◌else◌, arith}
use Rattle.mc_protocol.specs.{Legal.class_of, Legal.is_fit_for, declared.reply.Class.Class, declared.reply.Reply.Reply}
use Rattle.mc_script.specs.{declared.section.Label.Label, declared.step.Step.Step, declared.step.Template.Template, WellFormed.is_number_class}
use Rattle.mc_script.specs.declared.step.Step.TheVariants as step
use Rattle.mc_assembler.specs.ScriptRuns.{IsScriptRun, jump_on, place_of_label, next_of, bind_reply, met_at_step}
use Rattle.mc_code.specs.States.{State, after_reply, after_bind, Outcome, nothing_to_bind, is_number}
use Rattle.mc_code.specs.{declared.instr.Instr.Instr, Paths.Slides}
use Rattle.mc_assembler.specs.{Layout.code_place, Layout.after_label, Layout.label_place, Layout.entry_for, Layout.entries}
use Rattle.mc_code.specs.{Paths.Sends, Runs.Exchange, Runs.after_slide, Runs.met_at, Runs.IsRun, Runs.rests, Runs.slides, Runs.sends}
use Rattle.mc_code.specs.declared.instr.Instr.TheVariants as instr
use Rattle.mc_assembler.specs.ScriptRuns as script_run
use Rattle.mc_code.proofs.LookUps.{some_is}
use Rattle.mc_assembler.proofs.StepCode.{number_at, code_of_all, first_of_step, second_of_step, after_steps, next_place}
use Rattle.mc_code.proofs.RunLemmas.{fit_is_legal}
use Rattle.mc_assembler.proofs.StepFacts.{HasLabel, Binds, IsLaid, entry_is, number_shown, same_outcome}

-- from this place and state the script goes on by these exchanges, and meets this
abbrev Goes : List Label → List Step → ℕ → State → List Exchange → State → Outcome → Type 0
Goes labels steps p st exchanges st' outcome =
    (r : ℕ) × IsScriptRun labels steps p st exchanges r st' × (met_at_step (slice_get steps r) st' ≡ Some outcome)

-- the code is at a bind after a request, whose number was shown; the script has bound it already
abbrev IsAtBind : List Label → List Step → ℕ → ℕ → State → ℕ → State → Type 0
IsAtBind labels steps first x st p u =
    (v : ℕ) × (slice_get (code_of_all labels steps first) x ≡ Some (instr.Bind v)) × (is_number st.last.0 ≡ true)
    × (code_place steps p ≡ x + 1) × (after_bind v st ≡ u)

-- where the script is when its code is at this place in this state
abbrev IsAt : List Label → List Step → ℕ → ℕ → State → ℕ → State → Type 0
IsAt labels steps first x st p u = ((x ≡ code_place steps p) × (st ≡ u)) ⊎ IsAtBind labels steps first x st p u

-- what follows wherever the script may be
abbrev Follows : List Label → List Step → ℕ → ℕ → State → List Exchange → State → Outcome → Type 0
Follows labels steps first x st exchanges st' outcome =
    (p : ℕ) (u : State) → IsAt labels steps first x st p u → Goes labels steps p u exchanges st' outcome

-- ---- moves that send nothing

slid_from_step : (labels : List Label) (steps : List Step) (templates : List Template) (first : ℕ) → IsLaid labels steps templates first
    → (p q : ℕ) (st st' : State) (exchanges : List Exchange) (outcome : Outcome) (i : Instr) (o : Option Step) → slice_get steps p ≡ o
    → slice_get (code_of_all labels steps first) (code_place steps p) ≡ Some i → Slides i (code_place steps p) q
    → Follows labels steps first q (after_slide i st) exchanges st' outcome → Goes labels steps p st exchanges st' outcome
slid_from_step labels steps templates first laid p q st st' exchanges outcome i None e at leads others =
    absurd (subst (λ i. Slides i (code_place steps p) q) (some_is i instr.Halt (sym at ∙ after_steps labels steps first p e)) leads)
slid_from_step labels steps templates first laid p q st st' exchanges outcome i (Some (step.Send t jumps bind)) e at leads others =
    let send = instr.Send (number_at steps first p) (entries labels steps p t jumps bind) in
    let is = some_is i send (sym at ∙ first_of_step labels steps first p (step.Send t jumps bind) e send refl) in
    absurd (subst (λ i. Slides i (code_place steps p) q) is leads)
slid_from_step labels steps templates first laid p q st st' exchanges outcome i (Some (step.Bind v)) e at leads others =
    let is = some_is i (instr.Bind v) (sym at ∙ first_of_step labels steps first p (step.Bind v) e (instr.Bind v) refl) in
    let here : q ≡ code_place steps p + 1 = subst (λ i. Slides i (code_place steps p) q) is leads in
    let on = others (p + 1) (after_bind v st) (inl (here ∙ sym (next_place steps p (step.Bind v) e), ap (λ i. after_slide i st) is)) in
    (on.0, script_run.binds e on.1, on.2)
slid_from_step labels steps templates first laid p q st st' exchanges outcome i (Some (step.Goto label)) e at leads others =
    let goto = instr.Goto (label_place labels steps label) in
    let is = some_is i goto (sym at ∙ first_of_step labels steps first p (step.Goto label) e goto refl) in
    let here : q ≡ label_place labels steps label = subst (λ i. Slides i (code_place steps p) q) is leads in
    let has : HasLabel labels label = laid.fine p (step.Goto label) e in
    let on = others has.0.place st (inl (here ∙ ap (after_label steps) has.1, ap (λ i. after_slide i st) is)) in
    (on.0, script_run.goes e (ap place_of_label has.1) on.1, on.2)
slid_from_step labels steps templates first laid p q st st' exchanges outcome i (Some step.Halt) e at leads others =
    let is = some_is i instr.Halt (sym at ∙ first_of_step labels steps first p step.Halt e instr.Halt refl) in
    absurd (subst (λ i. Slides i (code_place steps p) q) is leads)

slid_back : (labels : List Label) (steps : List Step) (templates : List Template) (first : ℕ) → IsLaid labels steps templates first
    → (x q : ℕ) (st st' : State) (exchanges : List Exchange) (outcome : Outcome) (i : Instr)
    → slice_get (code_of_all labels steps first) x ≡ Some i → Slides i x q
    → Follows labels steps first q (after_slide i st) exchanges st' outcome → Follows labels steps first x st exchanges st' outcome
slid_back labels steps templates first laid x q st st' exchanges outcome i at leads others p u (inl (here, same)) =
    subst (λ u. Goes labels steps p u exchanges st' outcome) same
    (slid_from_step labels steps templates first laid p q st st' exchanges outcome i (slice_get steps p) refl
    (ap (slice_get (code_of_all labels steps first)) (sym here) ∙ at) (subst (λ x. Slides i x q) here leads) others)
slid_back labels steps templates first laid x q st st' exchanges outcome i at leads others p u (inr (v, bind, shown, next, same)) =
    let is = some_is i (instr.Bind v) (sym at ∙ bind) in
    let here : q ≡ x + 1 = subst (λ i. Slides i x q) is leads in
    others p u (inl (here ∙ sym next, ap (λ i. after_slide i st) is ∙ same))

-- ---- requests

-- where a reply leads in the script, when it leads here in its code
landed : (labels : List Label) (steps : List Step) (first p q : ℕ) (t : Template) (jumps : List (Class × ℕ)) (r : Reply) (bind jump : Option ℕ) (st : State)
    → slice_get steps p ≡ Some (step.Send t jumps bind) → is_fit_for t.verb r ≡ true
    → ((c : Class) (index : ℕ) → jump_on c jumps ≡ Some index → HasLabel labels index) → Binds t.verb jumps bind
    → jump_on (class_of r) jumps ≡ jump → q ≡ entry_for labels steps p bind (class_of r) jump
    → (to : ℕ) × (next_of labels p jump ≡ Some to) × IsAt labels steps first q (after_reply t r st) to (bind_reply bind (class_of r) (after_reply t r st))
landed labels steps first p q t jumps r None None st at fit labelled may on leads = (p + 1, refl, inl (leads, refl))
landed labels steps first p q t jumps r None (Some index) st at fit labelled may on leads =
    let has = labelled (class_of r) index on in
    (has.0.place, ap place_of_label has.1, inl (leads ∙ ap (after_label steps) has.1, refl))
landed labels steps first p q t jumps r (Some v) None st at fit labelled may on leads =
    (p + 1, refl, by_class (is_number_class (class_of r)) refl leads)
  where
    by_class : (b : Bool) → is_number_class (class_of r) ≡ b → q ≡ (if b then code_place steps p + 1 else code_place steps (p + 1))
        → IsAt labels steps first q (after_reply t r st) (p + 1) (if b then after_bind v (after_reply t r st) else after_reply t r st)
    by_class true number leads =
        let s = step.Send t jumps (Some v) in
        let after = next_place steps p s at in
        let bind = ap (slice_get (code_of_all labels steps first)) leads ∙ second_of_step labels steps first p s at (instr.Bind v) refl in
        inr (v, bind, number_shown t.verb t.key r fit may.0 number, omega (arith, after, leads), refl)
    by_class false number leads = inl (leads, refl)
landed labels steps first p q t jumps r (Some v) (Some index) st at fit labelled may on leads =
    let has = labelled (class_of r) index on in
    (has.0.place, ap place_of_label has.1, inl (leads ∙ ap (after_label steps) has.1, by_class (is_number_class (class_of r)) refl))
  where
    by_class : (b : Bool) → is_number_class (class_of r) ≡ b → after_reply t r st ≡ (if b then after_bind v (after_reply t r st) else after_reply t r st)
    by_class true number = let none = may.1 (class_of r) number in absurd (cc)
    by_class false number = refl

sent_from_request : (labels : List Label) (steps : List Step) (templates : List Template) (first : ℕ) → IsLaid labels steps templates first
    → (p q : ℕ) (st st' : State) (exchanges : List Exchange) (outcome : Outcome) (i : Instr) (t : Template) (jumps : List (Class × ℕ))
    (bind : Option ℕ) (r : Reply)
    → slice_get steps p ≡ Some (step.Send t jumps bind)
    → slice_get (code_of_all labels steps first) (code_place steps p) ≡ Some i → Sends templates i t (class_of r) q → is_fit_for t.verb r ≡ true
    → Follows labels steps first q (after_reply t r st) exchanges st' outcome → Goes labels steps p st ((t, r) ∷ exchanges) st' outcome
sent_from_request labels steps templates first laid p q st st' exchanges outcome i t jumps bind r e at leads fit others =
    let s = step.Send t jumps bind in
    let send = instr.Send (number_at steps first p) (entries labels steps p t jumps bind) in
    let is = some_is i send (sym at ∙ first_of_step labels steps first p s e send refl) in
    let here : Sends templates send t (class_of r) q = subst (λ i. Sends templates i t (class_of r) q) is leads in
    let entry = here.2 ∙ entry_is labels steps p t jumps bind (class_of r) (fit_is_legal t.verb r fit) in
    let fine = laid.fine p s e in
    let to = landed labels steps first p q t jumps r bind (jump_on (class_of r) jumps) st e fit fine.0 fine.1 refl entry in
    let on = others to.0 (bind_reply bind (class_of r) (after_reply t r st)) to.2 in
    (on.0, script_run.sends {r = on.0} e fit to.1 on.1, on.2)

sent_from_step : (labels : List Label) (steps : List Step) (templates : List Template) (first : ℕ) → IsLaid labels steps templates first
    → (p q : ℕ) (st st' : State) (exchanges : List Exchange) (outcome : Outcome) (i : Instr) (t : Template) (r : Reply) (o : Option Step)
    → slice_get steps p ≡ o
    → slice_get (code_of_all labels steps first) (code_place steps p) ≡ Some i → Sends templates i t (class_of r) q → is_fit_for t.verb r ≡ true
    → Follows labels steps first q (after_reply t r st) exchanges st' outcome → Goes labels steps p st ((t, r) ∷ exchanges) st' outcome
sent_from_step labels steps templates first laid p q st st' exchanges outcome i t r None e at leads fit others =
    absurd (subst (λ i. Sends templates i t (class_of r) q) (some_is i instr.Halt (sym at ∙ after_steps labels steps first p e)) leads)
sent_from_step labels steps templates first laid p q st st' exchanges outcome i t r (Some (step.Send u jumps bind)) e at leads fit others =
    let s = step.Send u jumps bind in
    let send = instr.Send (number_at steps first p) (entries labels steps p u jumps bind) in
    let is = some_is i send (sym at ∙ first_of_step labels steps first p s e send refl) in
    let here : Sends templates send t (class_of r) q = subst (λ i. Sends templates i t (class_of r) q) is leads in
    let same : u ≡ t = some_is u t (sym (laid.named p s u e refl) ∙ here.0) in
    sent_from_request labels steps templates first laid p q st st' exchanges outcome i t jumps bind r
    (subst (λ t. slice_get steps p ≡ Some (step.Send t jumps bind)) same e) at leads fit others
sent_from_step labels steps templates first laid p q st st' exchanges outcome i t r (Some (step.Bind v)) e at leads fit others =
    let is = some_is i (instr.Bind v) (sym at ∙ first_of_step labels steps first p (step.Bind v) e (instr.Bind v) refl) in
    absurd (subst (λ i. Sends templates i t (class_of r) q) is leads)
sent_from_step labels steps templates first laid p q st st' exchanges outcome i t r (Some (step.Goto label)) e at leads fit others =
    let goto = instr.Goto (label_place labels steps label) in
    let is = some_is i goto (sym at ∙ first_of_step labels steps first p (step.Goto label) e goto refl) in
    absurd (subst (λ i. Sends templates i t (class_of r) q) is leads)
sent_from_step labels steps templates first laid p q st st' exchanges outcome i t r (Some step.Halt) e at leads fit others =
    let is = some_is i instr.Halt (sym at ∙ first_of_step labels steps first p step.Halt e instr.Halt refl) in
    absurd (subst (λ i. Sends templates i t (class_of r) q) is leads)

sent_back : (labels : List Label) (steps : List Step) (templates : List Template) (first : ℕ) → IsLaid labels steps templates first
    → (x q : ℕ) (st st' : State) (exchanges : List Exchange) (outcome : Outcome) (i : Instr) (t : Template) (r : Reply)
    → slice_get (code_of_all labels steps first) x ≡ Some i → Sends templates i t (class_of r) q → is_fit_for t.verb r ≡ true
    → Follows labels steps first q (after_reply t r st) exchanges st' outcome → Follows labels steps first x st ((t, r) ∷ exchanges) st' outcome
sent_back labels steps templates first laid x q st st' exchanges outcome i t r at leads fit others p u (inl (here, same)) =
    subst (λ u. Goes labels steps p u ((t, r) ∷ exchanges) st' outcome) same
    (sent_from_step labels steps templates first laid p q st st' exchanges outcome i t r (slice_get steps p) refl
    (ap (slice_get (code_of_all labels steps first)) (sym here) ∙ at) leads fit others)
sent_back labels steps templates first laid x q st st' exchanges outcome i t r at leads fit others p u (inr (v, bind, shown, next, same)) =
    absurd (subst (λ i. Sends templates i t (class_of r) q) (some_is i (instr.Bind v) (sym at ∙ bind)) leads)

-- ---- the whole run

-- at its end the script meets what its code meets
rested : (labels : List Label) (steps : List Step) (templates : List Template) (first : ℕ) → IsLaid labels steps templates first
    → (x : ℕ) (st : State) (outcome : Outcome) → met_at templates (slice_get (code_of_all labels steps first) x) st ≡ Some outcome
    → Follows labels steps first x st [] st outcome
rested labels steps templates first laid x st outcome met p u (inl (here, same)) =
    let met_here = ap (λ x. met_at templates (slice_get (code_of_all labels steps first) x) st) (sym here) ∙ met in
    subst (λ u. Goes labels steps p u [] st outcome) same
    (p, script_run.rests, sym (same_outcome labels steps templates first laid p st) ∙ met_here)
rested labels steps templates first laid x st outcome met p u (inr (v, bind, shown, next, same)) =
    let met_bind = ap (λ o. met_at templates o st) (sym bind) ∙ met in
    absurd (unmet (is_number st.last.0) shown met_bind)
  where
    unmet : (b : Bool) → b ≡ true → (if b then None else Some (nothing_to_bind v)) ≡ Some outcome → ⊥
    unmet true e f = absurd (cc)
    unmet false e f = absurd (cc)

-- what the code does from a place, the script does from where it is then
pub backwards : (labels : List Label) (steps : List Step) (templates : List Template) (first : ℕ) → IsLaid labels steps templates first
    → (outcome : Outcome) → {x r : ℕ} {st st' : State} {exchanges : List Exchange}
    → IsRun templates (code_of_all labels steps first) x st exchanges r st'
    → met_at templates (slice_get (code_of_all labels steps first) r) st' ≡ Some outcome
    → Follows labels steps first x st exchanges st' outcome
backwards labels steps templates first laid outcome (rests {p = p} {st = st}) met = rested labels steps templates first laid p st outcome met
backwards labels steps templates first laid outcome (slides {p = p} {q = q} {st = st} {st' = st'} {exchanges = exchanges} i at leads more) met =
    slid_back labels steps templates first laid p q st st' exchanges outcome i at leads (backwards labels steps templates first laid outcome more met)
backwards labels steps templates first laid outcome
    (sends {p = p} {q = q} {st = st} {st' = st'} {exchanges = exchanges} {t = t} {reply = reply} i at leads fit more) met =
    sent_back labels steps templates first laid p q st st' exchanges outcome i t reply at leads fit
    (backwards labels steps templates first laid outcome more met)

-- what the code does from its start, the script does from its start
pub comes_to_too : (labels : List Label) (steps : List Step) (templates : List Template) (first : ℕ) → IsLaid labels steps templates first
    → (st st' : State) (exchanges : List Exchange) (outcome : Outcome) (r : ℕ) → IsRun templates (code_of_all labels steps first) 0 st exchanges r st'
    → met_at templates (slice_get (code_of_all labels steps first) r) st' ≡ Some outcome
    → (p : ℕ) × IsScriptRun labels steps 0 st exchanges p st' × (met_at_step (slice_get steps p) st' ≡ Some outcome)
comes_to_too labels steps templates first laid st st' exchanges outcome r run met =
    backwards labels steps templates first laid outcome run met 0 st (inl (refl, refl))
