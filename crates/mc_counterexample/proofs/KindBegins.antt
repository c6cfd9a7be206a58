-- Where the named section begins, and what of a run that shows a fault of variables is left then.
use Rattle.std.proofs.Common.{◌≡◌, ◌↔◌, ℕ, Bool, true, false, Option, Some, None, IfSome, IfNone, List, [], ◌∷◌, ◌++◌, slice_get}
use Rattle.std.proofs.Common.{refl, ap, sym, subst, ◌∙◌}
use Rattle.mc_protocol.specs.{Legal.class_of, declared.actor.Actor.Actor, declared.reply.Class.Class}
use Rattle.mc_protocol.specs.declared.actor.Actor.TheVariants as actor
use Rattle.mc_protocol.proofs.FirstItems.{head_is}
use Rattle.mc_script.specs.declared.step.Template.{Template}
use Rattle.mc_code.specs.States.{State, initial_state}
use Rattle.mc_code.specs.{Code.Code, Code.instructions_in, Paths.Slides, Paths.Sends, RunLaws.edges_of, Runs.Exchange, Runs.IsRun, declared.instr.Instr.Instr}
use Rattle.mc_code.specs.declared.instr.Instr.TheVariants as instr
use Rattle.mc_code.proofs.{LookUps.some_is, Stopping.StopsAt, Stopping.one_stop}
use Rattle.mc_counterexample.specs.{KindReplays.after_class, KindReplays.section_in, KindReplays.IsReplied, KindReplays.IsEnded, KindReplays.FailsOn}
use Rattle.mc_counterexample.specs.{KindReplays.FailsBehind, KindReplays.FailsWhere, Replays.RestsAt, Replays.is_branch, Replays.is_of}
use Rattle.mc_verify.specs.Shown.{replies_along}
use Rattle.mc_sound.specs.{declared.refusal_kind.RefusalKind.RefusalKind, Interleavings.staged}
use Rattle.mc_counterexample.proofs.KindReplays.{run_first, send_rests, first_of, first_before, fails_next, fails_before, behind_next, behind_before}

-- ---- where the replay goes on

-- a reply of the section that is on its way leads from what is left before it to what is left after it
pub replied_left : (c : Code) (kind : RefusalKind) (named : Actor) (place : ℕ) (begun : Bool) (from : ℕ) (st : State) (t : Template) (who : Actor) (cl : Class)
    (other : ℕ) (after : State) (shown : List (Actor × Class)) → who ≡ section_in begun named → (begun ≡ false → is_branch named ≡ true)
    → IsReplied c (section_in begun named) from st t cl other after
    → FailsWhere begun c kind named place from st ((who, cl) ∷ shown) ↔ FailsWhere begun c kind named place other after shown
replied_left c kind named place true from st t who cl other after shown who_is branch replied =
    subst (λ who. FailsOn c kind named place from st ((who, cl) ∷ shown) ↔ FailsOn c kind named place other after shown) (sym who_is)
    (fails_next c kind named place from st t cl other after shown replied, fails_before c kind named place from st t cl other after shown replied)
replied_left c kind named place false from st t who cl other after shown who_is branch replied =
    subst (λ who. FailsBehind c kind named place from st ((who, cl) ∷ shown) ↔ FailsBehind c kind named place other after shown) (sym who_is) (
      behind_next c kind named place from st t cl other after shown (branch refl) replied,
      behind_before c kind named place from st t cl other after shown replied,
    )

-- a run whose first exchange has a reply of the class has it to what is sent next
has_reply : (c : Code) (actor : Actor) (from : ℕ) (st : State) (cl : Class) (x : Exchange) (xs all : List Exchange) (q : ℕ) (end : State)
    → IsRun c.templates (instructions_in c actor) from st all q end → all ≡ x ∷ xs → class_of x.1 ≡ cl
    → (t : Template) × (other : ℕ) × (after : State) × IsReplied c actor from st t cl other after
has_reply c actor from st cl x xs all q end run is class_is =
    let first = run_first c.templates (instructions_in c actor) x xs run is in (
      x.0,
      first.other,
      after_class x.0 cl first.before,
      record {
        sent_at = first.sent_at;
        before = first.before;
        i = first.i;
        slid = first.slid;
        at = first.at;
        leads = subst (λ cl. Sends c.templates first.i x.0 cl first.other) class_is first.leads;
        after_is = refl;
      },
    )

pub unreplied_none : (c : Code) (kind : RefusalKind) (named : Actor) (place : ℕ) (begun : Bool) (from : ℕ) (st : State) (who : Actor) (cl : Class)
    (shown : List (Actor × Class)) → who ≡ section_in begun named → (begun ≡ false → is_branch named ≡ true)
    → ((t : Template) (other : ℕ) (after : State) → IsReplied c (section_in begun named) from st t cl other after → ⊥)
    → FailsWhere begun c kind named place from st ((who, cl) ∷ shown) → ⊥
unreplied_none c kind named place true from st who cl shown who_is branch never fails =
    let first = first_of named fails.exchanges who cl shown fails.shown_is in
    let replied = has_reply c named from st cl first.x first.xs fails.exchanges place fails.end fails.run first.all_is first.class_is in
    never replied.0 replied.1 replied.2 replied.3
unreplied_none c kind named place false from st who cl shown who_is branch never fails =
    let first = first_before named (branch refl) fails.before fails.fails.exchanges cl shown fails.rest
    (ap (λ who. (who, cl) ∷ shown) (sym who_is) ∙ fails.shown_is) fails.fails.shown_is in
    let replied = has_reply c actor.P from st cl first.0 first.1 fails.before fails.halt fails.end fails.run first.2 first.3 in
    never replied.0 replied.1 replied.2 replied.3

pub own_section : (one other : Actor) → is_of one other ≡ true → other ≡ one
own_section actor.P actor.P e = refl
own_section actor.P actor.A e = absurd (cc)
own_section actor.P actor.B e = absurd (cc)
own_section actor.A actor.P e = absurd (cc)
own_section actor.A actor.A e = refl
own_section actor.A actor.B e = absurd (cc)
own_section actor.B actor.P e = absurd (cc)
own_section actor.B actor.A e = absurd (cc)
own_section actor.B actor.B e = refl

of_itself : (one : Actor) → is_of one one ≡ true
of_itself actor.P = refl
of_itself actor.A = refl
of_itself actor.B = refl

of_p : (who : Actor) → is_branch who ≡ false → is_of actor.P who ≡ true
of_p actor.P e = refl
of_p actor.A e = absurd (cc)
of_p actor.B e = absurd (cc)

-- a reply of another section than that on its way is none of the run
pub other_section_none : (c : Code) (kind : RefusalKind) (named : Actor) (place : ℕ) (begun : Bool) (from : ℕ) (st : State) (who : Actor) (cl : Class)
    (shown : List (Actor × Class)) → is_of (section_in begun named) who ≡ false → (begun ≡ false → is_branch who ≡ false)
    → FailsWhere begun c kind named place from st ((who, cl) ∷ shown) → ⊥
other_section_none c kind named place true from st who cl shown other of_prefix fails =
    let first = first_of named fails.exchanges who cl shown fails.shown_is in
    let clash : true ≡ false = sym (of_itself named) ∙ ap (is_of named) (sym first.who_is) ∙ other in
    absurd (cc)
other_section_none c kind named place false from st who cl shown other of_prefix fails =
    let clash : true ≡ false = sym (of_p who (of_prefix refl)) ∙ other in absurd (cc)

-- ---- where a branch begins

-- P has no exchange before a reply of a branch
before_branch : (before : List Exchange) (who : Actor) (cl : Class) (shown rest : List (Actor × Class)) → is_branch who ≡ true
    → (who, cl) ∷ shown ≡ replies_along (staged actor.P (edges_of before)) ++ rest → (before ≡ []) × ((who, cl) ∷ shown ≡ rest)
before_branch [] who cl shown rest branch e = (refl, e)
before_branch (x ∷ xs) who cl shown rest branch e =
    let first = head_is (who, cl) (actor.P, class_of x.1) shown (replies_along (staged actor.P (edges_of xs)) ++ rest) e in
    let clash : false ≡ true = ap (λ (reply : Actor × Class). is_branch reply.0) (sym first) ∙ branch in
    absurd (cc)

no_before : (before : List Exchange) (rest : List (Actor × Class)) → [] ≡ replies_along (staged actor.P (edges_of before)) ++ rest → (before ≡ []) × ([] ≡ rest)
no_before [] rest e = (refl, e)
no_before (x ∷ xs) rest e = absurd (cc)

halt_stops : (section : List Instr) (p : ℕ) → slice_get section p ≡ Some instr.Halt → StopsAt section p
halt_stops section p at i q there leads = subst (λ i. Slides i p q) (some_is i instr.Halt (sym there ∙ at)) leads

-- P's end is one, and the branch begins in one state
ended_once : (c : Code) (from : ℕ) (st after end : State) (halt : ℕ) → IsEnded c from st after
    → IsRun c.templates (instructions_in c actor.P) from st [] halt end → slice_get (instructions_in c actor.P) halt ≡ Some instr.Halt
    → initial_state end.variables ≡ after
ended_once c from st after end halt ended run at =
    let section = instructions_in c actor.P in
    let same = one_stop c.templates section run (halt_stops section halt at) ended.halt ended.end ended.slid (halt_stops section ended.halt ended.halts) in
    ap (λ (st : State). initial_state st.variables) same.1 ∙ sym ended.after_is

behind_with : (c : Code) (kind : RefusalKind) (named : Actor) (place from : ℕ) (st after : State) (shown : List (Actor × Class)) → IsEnded c from st after
    → FailsOn c kind named place 0 after shown → FailsBehind c kind named place from st shown
behind_with c kind named place from st after shown ended fails = record {
  before = [];
  halt = ended.halt;
  end = ended.end;
  rest = shown;
  run = ended.slid;
  halts = ended.halts;
  fails = subst (λ st. FailsOn c kind named place 0 st shown) ended.after_is fails;
  shown_is = refl;
}

-- what is left where nothing is left of P
behind_without : (c : Code) (kind : RefusalKind) (named : Actor) (place from : ℕ) (st after : State) (shown : List (Actor × Class)) → IsEnded c from st after
    → (fails : FailsBehind c kind named place from st shown) → fails.before ≡ [] → shown ≡ fails.rest → FailsOn c kind named place 0 after shown
behind_without c kind named place from st after shown ended fails none all =
    let run = subst (λ xs. IsRun c.templates (instructions_in c actor.P) from st xs fails.halt fails.end) none fails.run in
    let begins = ended_once c from st after fails.end fails.halt ended run fails.halts in
    subst (FailsOn c kind named place 0 after) (sym all) (subst (λ st. FailsOn c kind named place 0 st fails.rest) begins fails.fails)

has_ended : (c : Code) (kind : RefusalKind) (named : Actor) (place from : ℕ) (st : State) (shown : List (Actor × Class))
    → (fails : FailsBehind c kind named place from st shown) → fails.before ≡ [] → (after : State) × IsEnded c from st after
has_ended c kind named place from st shown fails none =
    let run = subst (λ xs. IsRun c.templates (instructions_in c actor.P) from st xs fails.halt fails.end) none fails.run in (
      initial_state fails.end.variables,
      record { halt = fails.halt; end = fails.end; slid = run; halts = fails.halts; after_is = refl },
    )

pub branch_begins : (c : Code) (kind : RefusalKind) (named : Actor) (place from : ℕ) (st after : State) (who : Actor) (cl : Class)
    (shown : List (Actor × Class)) → is_branch who ≡ true → IsEnded c from st after
    → FailsBehind c kind named place from st ((who, cl) ∷ shown) ↔ FailsOn c kind named place 0 after ((who, cl) ∷ shown)
branch_begins c kind named place from st after who cl shown branch ended = (
  λ fails.
      let none = before_branch fails.before who cl shown fails.rest branch fails.shown_is in
      behind_without c kind named place from st after ((who, cl) ∷ shown) ended fails none.0 none.1,
  behind_with c kind named place from st after ((who, cl) ∷ shown) ended,
)

pub branch_begins_never : (c : Code) (kind : RefusalKind) (named : Actor) (place from : ℕ) (st : State) (who : Actor) (cl : Class)
    (shown : List (Actor × Class)) → is_branch who ≡ true → ((after : State) → IsEnded c from st after → ⊥)
    → FailsBehind c kind named place from st ((who, cl) ∷ shown) → ⊥
branch_begins_never c kind named place from st who cl shown branch never fails =
    let none = before_branch fails.before who cl shown fails.rest branch fails.shown_is in
    let ended = has_ended c kind named place from st ((who, cl) ∷ shown) fails none.0 in
    never ended.0 ended.1

pub branch_is_there : (c : Code) (kind : RefusalKind) (named : Actor) (place from : ℕ) (st after : State) → IsEnded c from st after
    → FailsBehind c kind named place from st [] ↔ FailsOn c kind named place 0 after []
branch_is_there c kind named place from st after ended = (
  λ fails.
      let none = no_before fails.before fails.rest fails.shown_is in
      behind_without c kind named place from st after [] ended fails none.0 none.1,
  behind_with c kind named place from st after [] ended,
)

pub branch_is_never : (c : Code) (kind : RefusalKind) (named : Actor) (place from : ℕ) (st : State) → ((after : State) → IsEnded c from st after → ⊥)
    → FailsBehind c kind named place from st [] → ⊥
branch_is_never c kind named place from st never fails =
    let none = no_before fails.before fails.rest fails.shown_is in
    let ended = has_ended c kind named place from st [] fails none.0 in
    never ended.0 ended.1

-- ---- from where a section rests

pub ended_at : (c : Code) (from rest : ℕ) (st mid after : State) → IsRun c.templates (instructions_in c actor.P) from st [] rest mid → RestsAt c actor.P rest
    → IsEnded c from st after → slice_get (instructions_in c actor.P) rest ≡ Some instr.Halt
ended_at c from rest st mid after run rests_there ended =
    let section = instructions_in c actor.P in
    let same = one_stop c.templates section ended.slid (halt_stops section ended.halt ended.halts) rest mid run (λ i q at on. rests_there q (i, at, on)) in
    ap (slice_get section) (sym same.0) ∙ ended.halts

pub replied_at : (c : Code) (actor : Actor) (from rest : ℕ) (st mid : State) (i : Instr) (t : Template) (cl : Class) (other : ℕ) (after : State)
    → IsRun c.templates (instructions_in c actor) from st [] rest mid → RestsAt c actor rest → slice_get (instructions_in c actor) rest ≡ Some i
    → IsReplied c actor from st t cl other after → Sends c.templates i t cl other
replied_at c actor from rest st mid i t cl other after run rests_there at replied =
    let section = instructions_in c actor in
    let sent = send_rests c.templates section replied.sent_at replied.i t cl other replied.at replied.leads in
    let same = one_stop c.templates section replied.slid sent rest mid run (λ i q at on. rests_there q (i, at, on)) in
    let i_is = some_is replied.i i (sym replied.at ∙ ap (slice_get section) same.0 ∙ at) in
    subst (λ i. Sends c.templates i t cl other) i_is replied.leads

-- ---- what is left, by whether the named section has begun

pub through : {A B C : Type 0} → A ↔ B → B ↔ C → A ↔ C
through f g = (λ a. g.0 (f.0 a), λ c. f.1 (g.1 c))

pub where_behind : (begun : Bool) (c : Code) (kind : RefusalKind) (named : Actor) (place from : ℕ) (st : State) (shown : List (Actor × Class))
    → begun ≡ false → FailsWhere begun c kind named place from st shown ↔ FailsBehind c kind named place from st shown
where_behind true c kind named place from st shown is = absurd (cc)
where_behind false c kind named place from st shown is = (λ fails. fails, λ fails. fails)

pub where_on : (begun : Bool) (c : Code) (kind : RefusalKind) (named : Actor) (place from : ℕ) (st : State) (shown : List (Actor × Class))
    → begun ≡ true → FailsWhere begun c kind named place from st shown ↔ FailsOn c kind named place from st shown
where_on true c kind named place from st shown is = (λ fails. fails, λ fails. fails)
where_on false c kind named place from st shown is = absurd (cc)

-- where the branch begins, what is left before it begins is left after it
pub begins_left : (c : Code) (kind : RefusalKind) (named : Actor) (place : ℕ) (begun begun' : Bool) (from from' : ℕ) (st after : State) (who : Actor)
    (cl : Class) (shown : List (Actor × Class)) → begun ≡ false → begun' ≡ true → from' ≡ 0 → is_branch who ≡ true → IsEnded c from st after
    → FailsWhere begun c kind named place from st ((who, cl) ∷ shown) ↔ FailsWhere begun' c kind named place from' after ((who, cl) ∷ shown)
begins_left c kind named place begun begun' from from' st after who cl shown isnt is first branch ended =
    let all = (who, cl) ∷ shown in
    through (where_behind begun c kind named place from st all isnt)
    (through (branch_begins c kind named place from st after who cl shown branch ended)
    (subst (λ from'. FailsOn c kind named place 0 after all ↔ FailsWhere begun' c kind named place from' after all) (sym first)
    (let on = where_on begun' c kind named place 0 after all is in (on.1, on.0))))

-- the same where nothing is left
pub begins_there : (c : Code) (kind : RefusalKind) (named : Actor) (place : ℕ) (begun : Bool) (from from' : ℕ) (st after : State)
    → begun ≡ false → from' ≡ 0 → IsEnded c from st after
    → FailsWhere begun c kind named place from st [] ↔ FailsOn c kind named place from' after []
begins_there c kind named place begun from from' st after isnt first ended =
    through (where_behind begun c kind named place from st [] isnt)
    (subst (λ from'. FailsBehind c kind named place from st [] ↔ FailsOn c kind named place from' after []) (sym first)
    (branch_is_there c kind named place from st after ended))

-- ---- answers that may be none

pub some_after : {X : Type 0} (o : Option X) (P Q R : X → Type 0) → ((x : X) → P x → Q x → R x) → IfSome o P → IfSome o Q → IfSome o R
some_after None P Q R f p q = tt
some_after (Some x) P Q R f p q = f x p q

pub none_after : {X : Type 0} (o : Option X) (P Q : Type 0) → (P → Q) → IfNone o P → IfNone o Q
none_after None P Q f p = f p
none_after (Some x) P Q f p = tt
