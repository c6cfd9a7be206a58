-- Where a section stands: what P leaves, and the calls that are made.
use Rattle.std.proofs.Common.{◌≡◌, ℕ, Bool, true, false, Option, Some, None, List, slice_get, slice_index_or, refl, ap, sym, subst, ◌∙◌, if◌then◌else◌}
use Rattle.mc_protocol.specs.declared.actor.Actor.TheVariants as actor
use Rattle.mc_script.specs.{declared.step.Argument.Argument, declared.step.Template.Template}
use Rattle.mc_script.specs.declared.step.Argument.TheVariants as argument
use Rattle.mc_code.specs.States.{Tagged, nothing, State, call, wrong_kind, ended, call_with, with_argument, send_outcome, wanted_by, is_same}
use Rattle.mc_code.specs.{declared.instr.Call.Call, declared.instr.Instr.Instr, Code.instructions_in, Paths.Slides, RunLaws.edges_of, Runs.met_by_send}
use Rattle.mc_code.specs.{Runs.met_at, Standing.met_in, Standing.no_variables, StandingLaws.CallsOnce, StandingLaws.CallsOpen, StandingLaws.LeavesOnce}
use Rattle.mc_code.specs.declared.instr.Instr.TheVariants as instr
use Rattle.mc_code.specs.declared.kind.Kind.TheVariants as kind
use Rattle.mc_code.proofs.{LookUps.some_is, RunLemmas.run_path, Stopping.stop_once, Stopping.one_stop, Stopping.StopsAt}

pub leaves_once : LeavesOnce
leaves_once c before variables others (st, comes, is) (st', comes', is') =
    let same = stop_once c actor.P (no_variables c) before st st' ended ended comes comes' refl refl in
    is ∙ ap (λ (st : State). st.variables) same.0 ∙ sym is'

-- ---- one call

-- no instruction leads on from a send without a reply
stops_at_send : (section : List Instr) (p n : ℕ) (next : List ℕ) → slice_get section p ≡ Some (instr.Send n next) → StopsAt section p
stops_at_send section p n next at i q here leads =
    subst (λ i. Slides i p q) (some_is i (instr.Send n next) (sym here ∙ at)) leads

same_send : (m n : ℕ) (xs ys : List ℕ) → Some (instr.Send m xs) ≡ Some (instr.Send n ys) → m ≡ n
same_send m n xs ys e = cc

same_number : (t u : Template) (m n : ℕ) → Some (call t m) ≡ Some (call u n) → m ≡ n
same_number t u m n e = cc

same_call : (x y : Call) → x.template ≡ y.template → x.number ≡ y.number → x ≡ y
same_call x y e f =
    ap (λ (t : ℕ). let made : Call = record { template = t; number = x.number } in made) e
    ∙ ap (λ (n : ℕ). let made : Call = record { template = y.template; number = n } in made) f

pub calls_once : CallsOnce
calls_once c actor variables exchanges made other x y =
    let section = instructions_in c actor in
    let same = one_stop c.templates section x.stands (stops_at_send section x.p made.template x.next x.sends) y.p y.st y.stands
    (stops_at_send section y.p other.template y.next y.sends) in
    let meets = sym x.meets ∙ ap (λ p. met_in c actor p x.st) same.0 ∙ ap (met_in c actor y.p) same.1 ∙ y.meets in
    let sends = sym x.sends ∙ ap (slice_get section) same.0 ∙ y.sends in
    same_call made other (same_send made.template other.template x.next y.next sends) (same_number x.t y.t made.number other.number meets)

-- ---- open calls

-- the call's template is the one that is sent
sent_is : (t u : Template) (a : Argument) (variables : List Tagged) (n : ℕ) → with_argument t a variables ≡ call u n → t ≡ u
sent_is t u argument.Nothing variables n e = cc
sent_is t u (argument.Number number) variables n e = cc
sent_is t u (argument.Variable v) variables n e = by_given (slice_index_or variables v nothing) e
  where
    by_kind : (b : Bool) (m : ℕ) → (if b then call t m else wrong_kind t) ≡ call u n → t ≡ u
    by_kind true m e = cc
    by_kind false m e = absurd (cc)

    by_given : (x : Tagged) → call_with t x ≡ call u n → t ≡ u
    by_given (kind.Unbound, m) e = absurd (cc)
    by_given (kind.Cas key, m) e = by_kind (is_same (kind.Cas key) (wanted_by t.verb t.key)) m e
    by_given (kind.Num, m) e = by_kind (is_same kind.Num (wanted_by t.verb t.key)) m e

pub template_is : (o : Option Template) (st : State) (t : Template) (n : ℕ) → Some (met_by_send o st) ≡ Some (call t n) → o ≡ Some t
template_is None st t n e = absurd (cc)
template_is (Some u) st t n e =
    let same : send_outcome u st ≡ call t n = some_is (send_outcome u st) (call t n) e in
    ap Some (sent_is u t u.argument st.variables n same)

pub calls_open : CallsOpen
calls_open c actor variables exchanges made x =
    let meets = ap (λ o. met_at c.templates o x.st) (sym x.sends) ∙ x.meets in
    let named = template_is (slice_get c.templates made.template) x.st x.t made.number meets in
    (x.p, x.t, named, (edges_of exchanges, x.t, run_path x.stands, (made.template, x.next, x.sends, named), refl))
