-- A run of a script is one of its code.
use Rattle.std.proofs.Common.{◌≡◌, ℕ, ◌+◌, Bool, true, false, Option, Some, None, List, ◌∷◌, slice_get, refl, sym, subst, if◌then◌else◌, arith}
use Rattle.mc_protocol.specs.{Legal.class_of, Legal.is_fit_for, declared.reply.Class.Class, declared.reply.Reply.Reply}
use Rattle.mc_script.specs.{declared.section.Label.Label, declared.step.Step.Step, declared.step.Template.Template, WellFormed.is_number_class}
use Rattle.mc_script.specs.declared.step.Step.TheVariants as step
use Rattle.mc_code.specs.declared.instr.Instr.TheVariants as instr
use Rattle.mc_assembler.specs.Layout.{code_place, label_place, entry_for, entries}
use Rattle.mc_assembler.specs.ScriptRuns.{IsScriptRun, rests, binds, goes, sends, jump_on, next_of, bind_reply}
use Rattle.mc_code.specs.{Runs.Exchange, Runs.IsRun, States.State, States.after_reply, States.after_bind}
use Rattle.mc_code.specs.Runs as run
use Rattle.mc_code.proofs.LookUps.{some_is}
use Rattle.mc_assembler.proofs.StepCode.{number_at, code_of_all, first_of_step, second_of_step, next_place}
use Rattle.mc_code.proofs.RunLemmas.{fit_is_legal}
use Rattle.mc_assembler.proofs.StepFacts.{Binds, IsLaid, place_is, entry_is}

-- from where the reply of a class leads, the code goes on as the script does
entered : (labels : List Label) (steps : List Step) (templates : List Template) (first p q r : ℕ) (st st' : State) (exchanges : List Exchange)
    → (t : Template) (jumps : List (Class × ℕ)) (c : Class) (bind jump : Option ℕ) → slice_get steps p ≡ Some (step.Send t jumps bind)
    → Binds t.verb jumps bind → jump_on c jumps ≡ jump → next_of labels p jump ≡ Some q
    → IsRun templates (code_of_all labels steps first) (code_place steps q) (bind_reply bind c st) exchanges r st'
    → IsRun templates (code_of_all labels steps first) (entry_for labels steps p bind c jump) st exchanges r st'
entered labels steps templates first p q r st st' exchanges t jumps c None None at may on next more =
    subst (λ x. IsRun templates (code_of_all labels steps first) (code_place steps x) st exchanges r st') (sym (some_is (p + 1) q next)) more
entered labels steps templates first p q r st st' exchanges t jumps c None (Some index) at may on next more =
    subst (λ x. IsRun templates (code_of_all labels steps first) x st exchanges r st') (sym (place_is labels steps index q next)) more
entered labels steps templates first p q r st st' exchanges t jumps c (Some v) None at may on next more =
    by_class (is_number_class c)
    (subst (λ x. IsRun templates (code_of_all labels steps first) (code_place steps x) (bind_reply (Some v) c st) exchanges r st')
    (sym (some_is (p + 1) q next)) more)
  where
    by_class : (b : Bool) → IsRun templates (code_of_all labels steps first) (code_place steps (p + 1)) (if b then after_bind v st else st) exchanges r st'
        → IsRun templates (code_of_all labels steps first) (if b then code_place steps p + 1 else code_place steps (p + 1)) st exchanges r st'
    by_class true more =
        let after = next_place steps p (step.Send t jumps (Some v)) at in
        run.slides (instr.Bind v) (second_of_step labels steps first p (step.Send t jumps (Some v)) at (instr.Bind v) refl) (omega (arith, after)) more
    by_class false more = more
entered labels steps templates first p q r st st' exchanges t jumps c (Some v) (Some index) at may on next more =
    subst (λ x. IsRun templates (code_of_all labels steps first) x st exchanges r st') (sym (place_is labels steps index q next))
    (by_class (is_number_class c) refl more)
  where
    by_class : (b : Bool) → is_number_class c ≡ b
        → IsRun templates (code_of_all labels steps first) (code_place steps q) (if b then after_bind v st else st) exchanges r st'
        → IsRun templates (code_of_all labels steps first) (code_place steps q) st exchanges r st'
    by_class true number more = let none = may.1 c number in absurd (cc)
    by_class false number more = more

sent : (labels : List Label) (steps : List Step) (templates : List Template) (first : ℕ) → IsLaid labels steps templates first
    → (p q r : ℕ) (st st' : State) (exchanges : List Exchange) (t : Template) (jumps : List (Class × ℕ)) (bind : Option ℕ) (reply : Reply)
    → slice_get steps p ≡ Some (step.Send t jumps bind) → is_fit_for t.verb reply ≡ true
    → next_of labels p (jump_on (class_of reply) jumps) ≡ Some q
    → IsRun templates (code_of_all labels steps first) (code_place steps q) (bind_reply bind (class_of reply) (after_reply t reply st)) exchanges r st'
    → IsRun templates (code_of_all labels steps first) (code_place steps p) st ((t, reply) ∷ exchanges) r st'
sent labels steps templates first laid p q r st st' exchanges t jumps bind reply at fit next more =
    let c = class_of reply in
    let s = step.Send t jumps bind in
    let legal = fit_is_legal t.verb reply fit in
    let send = instr.Send (number_at steps first p) (entries labels steps p t jumps bind) in
    let on = entered labels steps templates first p q r (after_reply t reply st) st' exchanges t jumps c bind (jump_on c jumps) at
    (laid.fine p s at).1 refl next more in
    run.sends send (first_of_step labels steps first p s at send refl)
    (laid.named p s t at refl, legal, sym (entry_is labels steps p t jumps bind c legal)) fit on

-- what a script does from a step, its code does from where the step's code is
pub forwards : (labels : List Label) (steps : List Step) (templates : List Template) (first : ℕ) → IsLaid labels steps templates first
    → {p r : ℕ} {st st' : State} {exchanges : List Exchange} → IsScriptRun labels steps p st exchanges r st'
    → IsRun templates (code_of_all labels steps first) (code_place steps p) st exchanges (code_place steps r) st'
forwards labels steps templates first laid rests = run.rests
forwards labels steps templates first laid (binds {p = p} {variable = v} at more) =
    run.slides (instr.Bind v) (first_of_step labels steps first p (step.Bind v) at (instr.Bind v) refl)
    (next_place steps p (step.Bind v) at) (forwards labels steps templates first laid more)
forwards labels steps templates first laid (goes {p = p} {q = q} {label = label} at leads more) =
    let goto = instr.Goto (label_place labels steps label) in
    run.slides goto (first_of_step labels steps first p (step.Goto label) at goto refl)
    (sym (place_is labels steps label q leads)) (forwards labels steps templates first laid more)
forwards labels steps templates first laid
    (sends {p = p} {q = q} {r = r} {st = st} {st' = st'} {exchanges = exchanges} {t = t} {jumps = jumps} {bind = bind} {reply = reply} at fit next more) =
    sent labels steps templates first laid p q (code_place steps r) st st' exchanges t jumps bind reply at fit next
    (forwards labels steps templates first laid more)
