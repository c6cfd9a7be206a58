-- What of a run that shows a fault of variables is left after each reply.
use Rattle.std.proofs.Common.{◌≡◌, ℕ, zero, suc, ◌==◌, true, ◌&&◌, Option, Some, None, List, [], ◌∷◌, ◌++◌, slice_get}
use Rattle.std.proofs.Common.{slice_index_or, refl, ap, sym, subst, ◌∙◌, if◌then◌else◌}
use Rattle.std.proofs.lemmas.List.Elements.{All-nil, All-cons}
use Rattle.std.specs.List.{All}
use Rattle.mc_protocol.specs.Legal.{class_of, is_fit_for, shows_number}
use Rattle.mc_protocol.specs.{declared.actor.Actor.Actor, declared.reply.Class.Class, declared.request.Verb.Verb}
use Rattle.mc_protocol.specs.declared.actor.Actor.TheVariants as actor
use Rattle.mc_protocol.specs.declared.reply.Class.TheVariants as class
use Rattle.mc_protocol.specs.declared.request.Verb.TheVariants as verb
use Rattle.mc_protocol.proofs.FirstItems.{head_is, rest_is}
use Rattle.mc_script.specs.{declared.step.Argument.Argument, declared.step.Template.Template}
use Rattle.mc_script.specs.declared.step.Argument.TheVariants as argument
use Rattle.mc_code.specs.NumberLaws.{kinds_of, HaveSameKinds, IsFit}
use Rattle.mc_code.specs.Runs.{Exchange, IsRun, rests, slides, sends, met_at, met_by_send}
use Rattle.mc_code.specs.States.{Tagged, State, nothing, initial_state, after_reply, shown_of, with_argument}
use Rattle.mc_code.specs.{Code.Code, Code.instructions_in, Paths.Slides, Paths.Sends, RunLaws.edges_of, Standing.met_in, declared.instr.Instr.Instr}
use Rattle.mc_code.specs.declared.kind.Kind.TheVariants as kind
use Rattle.mc_code.specs.declared.instr.Instr.TheVariants as instr
use Rattle.mc_code.proofs.RunLemmas.{reply_with, class_of_reply, reply_fits, sends_legal}
use Rattle.mc_code.proofs.{LookUps.some_is, SameKinds.edges_lead_alike, Stopping.StopsAt, Stopping.one_stop, Stopping.slides_or_sends}
use Rattle.mc_counterexample.specs.{KindReplays.number_of, KindReplays.after_class, KindReplays.IsReplied, KindReplays.FailsOn, KindReplays.FailsBehind}
use Rattle.mc_counterexample.specs.{Replays.is_branch}
use Rattle.mc_verify.specs.{VariableFaults.is_outcome, VariableFaults.is_wrong, VariableFaults.is_of_binds, Shown.replies_along}
use Rattle.mc_sound.specs.{declared.refusal_kind.RefusalKind.RefusalKind, Interleavings.staged}
use Rattle.mc_flow.specs.{Kinds.kind_index, RunKinds.shown_by}
use Rattle.mc_verify.proofs.FaultKinds.{wrong_number, unshown}
use Rattle.mc_counterexample.proofs.Settling.{sends_same}
use Rattle.mc_flow.proofs.RunKinds.{fit_shows}

-- ---- states of the same kinds come to the same faults

kind_at : (xs ys : List Tagged) (v : ℕ) → kinds_of xs ≡ kinds_of ys → (slice_index_or xs v nothing).0 ≡ (slice_index_or ys v nothing).0
kind_at [] [] v e = refl
kind_at [] (y ∷ ys) v e = absurd (cc)
kind_at (x ∷ xs) [] v e = absurd (cc)
kind_at (x ∷ xs) (y ∷ ys) zero e = head_is x.0 y.0 (kinds_of xs) (kinds_of ys) e
kind_at (x ∷ xs) (y ∷ ys) (suc v) e = kind_at xs ys v (rest_is x.0 y.0 (kinds_of xs) (kinds_of ys) e)

pub met_alike : (c : Code) (kind : RefusalKind) (actor : Actor) (place : ℕ) (st other : State) → HaveSameKinds st other
    → is_outcome kind (met_in c actor place st) ≡ is_outcome kind (met_in c actor place other)
met_alike c kind actor place st other same = by_instr (slice_get (instructions_in c actor) place)
  where
    by_argument : (t : Template) (a : Argument)
        → is_outcome kind (Some (with_argument t a st.variables)) ≡ is_outcome kind (Some (with_argument t a other.variables))
    by_argument t argument.Nothing = refl
    by_argument t (argument.Number number) = refl
    by_argument t (argument.Variable v) =
        wrong_number kind t (slice_index_or st.variables v nothing)
        ∙ ap (λ k. is_wrong kind t (kind_index k)) (kind_at st.variables other.variables v same.0)
        ∙ sym (wrong_number kind t (slice_index_or other.variables v nothing))

    by_template : (o : Option Template) → is_outcome kind (Some (met_by_send o st)) ≡ is_outcome kind (Some (met_by_send o other))
    by_template None = refl
    by_template (Some t) = by_argument t t.argument

    by_instr : (o : Option Instr) → is_outcome kind (met_at c.templates o st) ≡ is_outcome kind (met_at c.templates o other)
    by_instr None = refl
    by_instr (Some (instr.Send n next)) = by_template (slice_get c.templates n)
    by_instr (Some (instr.Bind v)) =
        unshown kind v st.last.0 ∙ ap (λ k. is_of_binds kind && (kind_index k == 0)) same.1 ∙ sym (unshown kind v other.last.0)
    by_instr (Some (instr.Goto target)) = refl
    by_instr (Some instr.Halt) = refl

run_fits : {templates : List Template} {section : List Instr} {p q : ℕ} {st end : State} {xs : List Exchange}
    → IsRun templates section p st xs q end → All IsFit xs
run_fits rests = All-nil IsFit
run_fits (slides i at leads run) = run_fits run
run_fits (sends {exchanges = xs} {t = t} {reply = given} i at leads fit run) = All-cons IsFit (t, given) xs fit (run_fits run)

pub fails_alike : (c : Code) (kind : RefusalKind) (actor : Actor) (place from : ℕ) (st other : State) (shown : List (Actor × Class)) → HaveSameKinds st other
    → FailsOn c kind actor place from st shown → FailsOn c kind actor place from other shown
fails_alike c kind actor place from st other shown same fails =
    let xs = fails.exchanges in
    let on = edges_lead_alike c.templates (instructions_in c actor) from place st other fails.end xs xs same refl (run_fits fails.run) fails.run in
    record {
      exchanges = xs;
      end = on.0;
      run = on.1;
      fails = sym (met_alike c kind actor place fails.end on.0 on.2) ∙ fails.fails;
      shown_is = fails.shown_is;
    }

-- ---- the first reply of a run

-- a run goes on to where the first exchange is, and behind it
pub record FirstExchange (templates : List Template) (section : List Instr) (p : ℕ) (st : State) (x : Exchange) (xs : List Exchange) (q : ℕ) (end : State)
    : Type 0 where
  pub sent_at : ℕ
  pub before : State
  pub i : Instr
  pub other : ℕ
  pub slid : IsRun templates section p st [] sent_at before
  pub at : slice_get section sent_at ≡ Some i
  pub leads : Sends templates i x.0 (class_of x.1) other
  pub fit : is_fit_for x.0.verb x.1 ≡ true
  pub more : IsRun templates section other (after_reply x.0 x.1 before) xs q end

pub run_first : (templates : List Template) (section : List Instr) (x : Exchange) (xs : List Exchange) → {p q : ℕ} {st end : State} {all : List Exchange}
    → IsRun templates section p st all q end → all ≡ x ∷ xs → FirstExchange templates section p st x xs q end
run_first templates section x xs rests is = absurd (cc)
run_first templates section x xs (slides i at leads run) is =
    let first = run_first templates section x xs run is in
    record {
      sent_at = first.sent_at;
      before = first.before;
      i = first.i;
      other = first.other;
      slid = slides i at leads first.slid;
      at = first.at;
      leads = first.leads;
      fit = first.fit;
      more = first.more;
    }
run_first templates section x xs (sends {p = p} {q = q} {r = r} {st = st} {st' = end} {exchanges = rest} {t = t} {reply = given} i at leads fit run) is =
    let same = head_is (t, given) x rest xs is in
    let after = rest_is (t, given) x rest xs is in
    let here : FirstExchange templates section p st (t, given) rest r end = record {
      sent_at = p;
      before = st;
      i = i;
      other = q;
      slid = rests;
      at = at;
      leads = leads;
      fit = fit;
      more = run;
    } in
    subst (λ x. FirstExchange templates section p st x xs r end) same (subst (λ xs. FirstExchange templates section p st (t, given) xs r end) after here)

run_append : {templates : List Template} {section : List Instr} {p q r : ℕ} {st mid end : State} {xs ys : List Exchange}
    → IsRun templates section p st xs q mid → IsRun templates section q mid ys r end → IsRun templates section p st (xs ++ ys) r end
run_append rests more = more
run_append (slides i at leads run) more = slides i at leads (run_append run more)
run_append (sends i at leads fit run) more = sends i at leads fit (run_append run more)

-- ---- a reply to what is sent next

-- whichever reply of the class it is
shown_first : (t : Template) (cl : Class) → shown_of t.key (reply_with t.verb cl 0) ≡ number_of (shown_by t cl)
shown_first t class.Stored = refl
shown_first t class.NotStored = refl
shown_first t class.Exists = refl
shown_first t class.NotFound = refl
shown_first t class.Hit = by_verb t.verb
  where
    by_verb : (v : Verb) → shown_of t.key (reply_with v class.Hit 0) ≡ number_of (if shows_number v then kind.Cas t.key else kind.Unbound)
    by_verb verb.Set = refl
    by_verb verb.Add = refl
    by_verb verb.Replace = refl
    by_verb verb.Append = refl
    by_verb verb.Prepend = refl
    by_verb verb.Cas = refl
    by_verb verb.Get = refl
    by_verb verb.Gets = refl
    by_verb verb.Incr = refl
    by_verb verb.Decr = refl
    by_verb verb.Delete = refl
    by_verb verb.Touch = refl
shown_first t class.Miss = refl
shown_first t class.Deleted = refl
shown_first t class.Touched = refl
shown_first t class.Number = refl
shown_first t class.NotNumber = refl

pub send_rests : (templates : List Template) (section : List Instr) (p : ℕ) (i : Instr) (t : Template) (cl : Class) (other : ℕ) → slice_get section p ≡ Some i
    → Sends templates i t cl other → StopsAt section p
send_rests templates section p i t cl other at leads j q there on =
    slides_or_sends templates i p q other t cl (subst (λ i. Slides i p q) (some_is j i (sym there ∙ at)) on) leads

-- where the first exchange has the reply's class, its request is the template's, and what is behind it leads from the place and state after the reply,
-- to states of the same kinds
pub record GoesOnAlike (c : Code) (actor : Actor) (t : Template) (x : Exchange) (xs : List Exchange) (other : ℕ) (after : State) (q : ℕ) (end : State)
    : Type 0 where
  pub end' : State
  pub same_template : x.0 ≡ t
  pub run : IsRun c.templates (instructions_in c actor) other after xs q end'
  pub same_kinds : HaveSameKinds end end'

pub replied_next : (c : Code) (actor : Actor) (from : ℕ) (st : State) (t : Template) (cl : Class) (other : ℕ) (after : State)
    → IsReplied c actor from st t cl other after → (x : Exchange) (xs all : List Exchange) (q : ℕ) (end : State)
    → IsRun c.templates (instructions_in c actor) from st all q end → all ≡ x ∷ xs → class_of x.1 ≡ cl
    → GoesOnAlike c actor t x xs other after q end
replied_next c actor from st t cl other after replied x xs all q end run is class_is =
    let section = instructions_in c actor in
    let first = run_first c.templates section x xs run is in
    let rests_first = send_rests c.templates section first.sent_at first.i x.0 (class_of x.1) first.other first.at first.leads in
    let rests_replied = send_rests c.templates section replied.sent_at replied.i t cl other replied.at replied.leads in
    let same = one_stop c.templates section first.slid rests_first replied.sent_at replied.before replied.slid rests_replied in
    let i_is : first.i ≡ replied.i = some_is first.i replied.i (sym first.at ∙ ap (slice_get section) same.0 ∙ replied.at) in
    let led : Sends c.templates replied.i x.0 cl first.other =
    subst (λ cl. Sends c.templates replied.i x.0 cl first.other) class_is
    (subst (λ i. Sends c.templates i x.0 (class_of x.1) first.other) i_is first.leads) in
    let sent = sends_same c.templates replied.i x.0 t cl first.other other led replied.leads in
    let answered = after_reply x.0 x.1 first.before in
    let kinds : HaveSameKinds answered (after_class t cl replied.before) = (
      ap (λ (st : State). kinds_of st.variables) same.1,
      fit_shows x.0 x.1 first.fit ∙ ap (shown_by x.0) class_is ∙ ap (λ t. shown_by t cl) sent.0,
    ) in
    let alike : HaveSameKinds answered after = subst (HaveSameKinds answered) (sym replied.after_is) kinds in
    let more = subst (λ p. IsRun c.templates section p answered xs q end) sent.1 first.more in
    let on = edges_lead_alike c.templates section other q answered after end xs xs alike refl (run_fits more) more in
    record { end' = on.0; same_template = sent.0; run = on.1; same_kinds = on.2 }

pub replied_before : (c : Code) (actor : Actor) (from : ℕ) (st : State) (t : Template) (cl : Class) (other : ℕ) (after : State)
    → IsReplied c actor from st t cl other after → (xs : List Exchange) (q : ℕ) (end : State)
    → IsRun c.templates (instructions_in c actor) other after xs q end
    → IsRun c.templates (instructions_in c actor) from st ((t, reply_with t.verb cl 0) ∷ xs) q end
replied_before c actor from st t cl other after replied xs q end run =
    let section = instructions_in c actor in
    let given = reply_with t.verb cl 0 in
    let after_given : after_reply t given replied.before ≡ after_class t cl replied.before =
    ap (λ (last : Tagged). let st : State = record { variables = replied.before.variables; last = last } in st) (shown_first t cl) in
    let led = subst (λ cl. Sends c.templates replied.i t cl other) (sym (class_of_reply t.verb cl 0)) replied.leads in
    let fit = reply_fits t.verb cl 0 (sends_legal c.templates replied.i t cl other replied.leads) in
    run_append replied.slid
    (sends replied.i replied.at led fit (subst (λ st. IsRun c.templates section other st xs q end) (replied.after_is ∙ sym after_given) run))

-- ---- one more reply

-- the first reply is that of the first exchange
pub record FirstReply (actor : Actor) (all : List Exchange) (who : Actor) (cl : Class) (shown : List (Actor × Class)) : Type 0 where
  pub x : Exchange
  pub xs : List Exchange
  pub all_is : all ≡ x ∷ xs
  pub who_is : who ≡ actor
  pub class_is : class_of x.1 ≡ cl
  pub rest_is : shown ≡ replies_along (staged actor (edges_of xs))

pub first_of : (actor : Actor) (all : List Exchange) (who : Actor) (cl : Class) (shown : List (Actor × Class))
    → (who, cl) ∷ shown ≡ replies_along (staged actor (edges_of all)) → FirstReply actor all who cl shown
first_of actor [] who cl shown e = absurd (cc)
first_of actor (x ∷ xs) who cl shown e =
    let more = replies_along (staged actor (edges_of xs)) in
    let first = head_is (who, cl) (actor, class_of x.1) shown more e in
    record {
      x = x;
      xs = xs;
      all_is = refl;
      who_is = ap (λ (reply : Actor × Class). reply.0) first;
      class_is = sym (ap (λ (reply : Actor × Class). reply.1) first);
      rest_is = rest_is (who, cl) (actor, class_of x.1) shown more e;
    }

pub fails_next : (c : Code) (kind : RefusalKind) (actor : Actor) (place from : ℕ) (st : State) (t : Template) (cl : Class) (other : ℕ) (after : State)
    (shown : List (Actor × Class)) → IsReplied c actor from st t cl other after → FailsOn c kind actor place from st ((actor, cl) ∷ shown)
    → FailsOn c kind actor place other after shown
fails_next c kind actor place from st t cl other after shown replied fails =
    let first = first_of actor fails.exchanges actor cl shown fails.shown_is in
    let on = replied_next c actor from st t cl other after replied first.x first.xs fails.exchanges place fails.end fails.run first.all_is first.class_is in
    record {
      exchanges = first.xs;
      end = on.end';
      run = on.run;
      fails = sym (met_alike c kind actor place fails.end on.end' on.same_kinds) ∙ fails.fails;
      shown_is = first.rest_is;
    }

-- the reply before the others
more_replies : (actor : Actor) (t : Template) (cl : Class) (more : List (Actor × Class))
    → (actor, cl) ∷ more ≡ (actor, class_of (reply_with t.verb cl 0)) ∷ more
more_replies actor t cl more = ap (λ cl. (actor, cl) ∷ more) (sym (class_of_reply t.verb cl 0))

pub fails_before : (c : Code) (kind : RefusalKind) (actor : Actor) (place from : ℕ) (st : State) (t : Template) (cl : Class) (other : ℕ) (after : State)
    (shown : List (Actor × Class)) → IsReplied c actor from st t cl other after → FailsOn c kind actor place other after shown
    → FailsOn c kind actor place from st ((actor, cl) ∷ shown)
fails_before c kind actor place from st t cl other after shown replied fails = record {
  exchanges = (t, reply_with t.verb cl 0) ∷ fails.exchanges;
  end = fails.end;
  run = replied_before c actor from st t cl other after replied fails.exchanges place fails.end fails.run;
  fails = fails.fails;
  shown_is = ap (λ shown. (actor, cl) ∷ shown) fails.shown_is ∙ more_replies actor t cl (replies_along (staged actor (edges_of fails.exchanges)));
}

-- P's reply is the first of those before the branch's, which are not P's
pub first_before : (named : Actor) → is_branch named ≡ true → (before own : List Exchange) (cl : Class) (shown rest : List (Actor × Class))
    → (actor.P, cl) ∷ shown ≡ replies_along (staged actor.P (edges_of before)) ++ rest → rest ≡ replies_along (staged named (edges_of own))
    → (x : Exchange) × (xs : List Exchange) × (before ≡ x ∷ xs) × (class_of x.1 ≡ cl)
    × (shown ≡ replies_along (staged actor.P (edges_of xs)) ++ rest)
first_before named branch [] own cl shown rest e is =
    let first = first_of named own actor.P cl shown (e ∙ is) in
    let no : is_branch actor.P ≡ true = ap is_branch first.who_is ∙ branch in
    absurd (cc)
first_before named branch (x ∷ xs) own cl shown rest e is =
    let more = replies_along (staged actor.P (edges_of xs)) ++ rest in
    let first = head_is (actor.P, cl) (actor.P, class_of x.1) shown more e in
    (x, xs, refl, sym (ap (λ (reply : Actor × Class). reply.1) first), rest_is (actor.P, cl) (actor.P, class_of x.1) shown more e)

pub behind_next : (c : Code) (kind : RefusalKind) (named : Actor) (place from : ℕ) (st : State) (t : Template) (cl : Class) (other : ℕ) (after : State)
    (shown : List (Actor × Class)) → is_branch named ≡ true → IsReplied c actor.P from st t cl other after
    → FailsBehind c kind named place from st ((actor.P, cl) ∷ shown) → FailsBehind c kind named place other after shown
behind_next c kind named place from st t cl other after shown branch replied fails =
    let first = first_before named branch fails.before fails.fails.exchanges cl shown fails.rest fails.shown_is fails.fails.shown_is in
    let on = replied_next c actor.P from st t cl other after replied first.0 first.1 fails.before fails.halt fails.end fails.run first.2 first.3 in
    record {
      before = first.1;
      halt = fails.halt;
      end = on.end';
      rest = fails.rest;
      run = on.run;
      halts = fails.halts;
      fails = fails_alike c kind named place 0 (initial_state fails.end.variables) (initial_state on.end'.variables) fails.rest
          (on.same_kinds.0, refl) fails.fails;
      shown_is = first.4;
    }

pub behind_before : (c : Code) (kind : RefusalKind) (named : Actor) (place from : ℕ) (st : State) (t : Template) (cl : Class) (other : ℕ) (after : State)
    (shown : List (Actor × Class)) → IsReplied c actor.P from st t cl other after → FailsBehind c kind named place other after shown
    → FailsBehind c kind named place from st ((actor.P, cl) ∷ shown)
behind_before c kind named place from st t cl other after shown replied fails = record {
  before = (t, reply_with t.verb cl 0) ∷ fails.before;
  halt = fails.halt;
  end = fails.end;
  rest = fails.rest;
  run = replied_before c actor.P from st t cl other after replied fails.before fails.halt fails.end fails.run;
  halts = fails.halts;
  fails = fails.fails;
  shown_is =
      ap (λ shown. (actor.P, cl) ∷ shown) fails.shown_is
      ∙ more_replies actor.P t cl (replies_along (staged actor.P (edges_of fails.before)) ++ fails.rest);
}
