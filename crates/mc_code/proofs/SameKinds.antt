-- The kinds of numbers follow the edges of a run.
use Rattle.std.proofs.Common.{◌≡◌, ℕ, zero, suc, ◌≤◌, Bool, true, false, not, ◌&&◌, Some, None, List, [], ◌∷◌, slice_get}
use Rattle.std.proofs.Common.{slice_set, refl, ap, sym, subst, ◌∙◌, inl, inr, if◌then◌else◌, arith}
use Rattle.std.proofs.lemmas.List.Elements.{All-head, All-tail}
use Rattle.std.specs.List.{All}
use Rattle.mc_protocol.specs.Legal.{class_of, shows_number, is_fit_for}
use Rattle.mc_protocol.specs.{declared.request.Verb.Verb, declared.reply.Class.Class, declared.reply.Reply.Reply}
use Rattle.mc_protocol.specs.declared.reply.Class.TheVariants as class
use Rattle.mc_protocol.specs.declared.reply.Reply.TheVariants as reply
use Rattle.mc_script.specs.declared.step.Template.{Template}
use Rattle.mc_code.specs.NumberLaws.{kinds_of, HaveSameKinds, IsFit, EdgesLeadAlike, KindsFollowEdges}
use Rattle.mc_code.specs.Runs.{Exchange, after_slide, IsRun, rests, slides, sends}
use Rattle.mc_code.specs.States.{Tagged, State, after_reply, after_bind, is_number, shown_of}
use Rattle.mc_code.specs.{declared.instr.Instr.Instr, declared.kind.Kind.Kind, Paths.Edge, Paths.LeadsForwards, Paths.Slides, Paths.Sends, RunLaws.edges_of}
use Rattle.mc_code.specs.declared.instr.Instr.TheVariants as instr
use Rattle.mc_code.specs.declared.kind.Kind.TheVariants as kind
use Rattle.mc_protocol.proofs.FirstItems.{head_is, rest_is}
use Rattle.mc_code.proofs.LookUps.{some_is}
use Rattle.mc_code.proofs.Stopping.{RunBegins, rested, slid_first, sent_first, run_begins, slides_once, sends_once, slides_or_sends}

-- ---- what a reply shows

-- the kind of what a reply of the class to the verb shows
abbrev kind_shown : Verb → ℕ → Class → Kind
kind_shown v key class.Hit = if shows_number v then kind.Cas key else kind.Unbound
kind_shown v key class.Number = kind.Num
kind_shown v key _ = kind.Unbound

middle : (a b c : Bool) → (a && (b && c)) ≡ true → b ≡ true
middle true true c e = refl
middle true false c e = absurd (cc)
middle false b c e = absurd (cc)

shown_kind : (v : Verb) (key : ℕ) (r : Reply) → is_fit_for v r ≡ true → (shown_of key r).0 ≡ kind_shown v key (class_of r)
shown_kind v key (reply.Hit flags body (Some n)) fit = by_verb (shows_number v) (middle _ (shows_number v) _ fit)
  where
    by_verb : (b : Bool) → b ≡ true → kind.Cas key ≡ (if b then kind.Cas key else kind.Unbound)
    by_verb true e = refl
    by_verb false e = absurd (cc)
shown_kind v key (reply.Hit flags body None) fit = by_verb (shows_number v) (middle _ (not (shows_number v)) _ fit)
  where
    by_verb : (b : Bool) → not b ≡ true → kind.Unbound ≡ (if b then kind.Cas key else kind.Unbound)
    by_verb true e = absurd (cc)
    by_verb false e = refl
shown_kind v key (reply.Number n) fit = refl
shown_kind v key reply.Stored fit = refl
shown_kind v key reply.NotStored fit = refl
shown_kind v key reply.Exists fit = refl
shown_kind v key reply.NotFound fit = refl
shown_kind v key reply.Miss fit = refl
shown_kind v key reply.Deleted fit = refl
shown_kind v key reply.Touched fit = refl
shown_kind v key reply.NotNumber fit = refl

-- ---- one move

set_kinds : (xs ys : List Tagged) (i : ℕ) (x y : Tagged) → kinds_of xs ≡ kinds_of ys → x.0 ≡ y.0 → kinds_of (slice_set xs i x) ≡ kinds_of (slice_set ys i y)
set_kinds [] [] i x y e f = refl
set_kinds [] (v ∷ ys) i x y e f = absurd (cc)
set_kinds (u ∷ xs) [] i x y e f = absurd (cc)
set_kinds (u ∷ xs) (v ∷ ys) zero x y e f =
    ap (λ k. k ∷ kinds_of xs) f ∙ ap (λ l. y.0 ∷ l) (rest_is u.0 v.0 (kinds_of xs) (kinds_of ys) e)
set_kinds (u ∷ xs) (v ∷ ys) (suc i) x y e f =
    ap (λ k. k ∷ kinds_of (slice_set xs i x)) (head_is u.0 v.0 (kinds_of xs) (kinds_of ys) e)
    ∙ ap (λ l. v.0 ∷ l) (set_kinds xs ys i x y (rest_is u.0 v.0 (kinds_of xs) (kinds_of ys) e) f)

bound_alike : (v : ℕ) (st other : State) → HaveSameKinds st other → HaveSameKinds (after_bind v st) (after_bind v other)
bound_alike v st other same = by_number (is_number st.last.0) (is_number other.last.0) (ap is_number same.1)
  where
    by_number : (b c : Bool) → b ≡ c
        → HaveSameKinds (if b then record { variables = slice_set st.variables v st.last; last = st.last } else st)
        (if c then record { variables = slice_set other.variables v other.last; last = other.last } else other)
    by_number true true e = (set_kinds st.variables other.variables v st.last other.last same.0 same.1, same.1)
    by_number true false e = absurd (cc)
    by_number false true e = absurd (cc)
    by_number false false e = same

slid_alike : (i : Instr) (st other : State) → HaveSameKinds st other → HaveSameKinds (after_slide i st) (after_slide i other)
slid_alike (instr.Bind v) st other same = bound_alike v st other same
slid_alike (instr.Goto place) st other same = same
slid_alike (instr.Send t next) st other same = same
slid_alike instr.Halt st other same = same

answered_alike : (t : Template) (r s : Reply) (st other : State) → is_fit_for t.verb r ≡ true → is_fit_for t.verb s ≡ true → class_of r ≡ class_of s
    → HaveSameKinds st other → HaveSameKinds (after_reply t r st) (after_reply t s other)
answered_alike t r s st other fit fit' e same =
    (same.0, shown_kind t.verb t.key r fit ∙ ap (kind_shown t.verb t.key) e ∙ sym (shown_kind t.verb t.key s fit'))

-- ---- runs

-- no run leads back
goes_on : {templates : List Template} {section : List Instr} → LeadsForwards templates section → {p q : ℕ} {st end : State} {xs : List Exchange}
    → IsRun templates section p st xs q end → p ≤ q
goes_on forwards rests = omega arith
goes_on forwards (slides {p = p} {q = q} i at leads run) =
    let on = (forwards i p q at (inl leads)).0 in
    let more = goes_on forwards run in
    omega (arith, on, more)
goes_on forwards (sends {p = p} {q = q} {t = t} {reply = r} i at leads fit run) =
    let on = (forwards i p q at (inr (t, class_of r, leads))).0 in
    let more = goes_on forwards run in
    omega (arith, on, more)

-- what each other run by these edges comes to, from a state of the same kinds
abbrev EndsAlike : List Template → List Instr → ℕ → State → List Exchange → ℕ → State → Type 0
EndsAlike templates section p st xs q end =
    (other end' : State) (ys : List Exchange) → HaveSameKinds st other → edges_of xs ≡ edges_of ys
    → IsRun templates section p other ys q end' → HaveSameKinds end end'

when_rested : (templates : List Template) (section : List Instr) → LeadsForwards templates section → (p : ℕ) (st other end' : State) (ys : List Exchange)
    → HaveSameKinds st other → RunBegins templates section p other ys p end' → HaveSameKinds st end'
when_rested templates section forwards p st other end' ys same (rested e f g) = subst (HaveSameKinds st) f same
when_rested templates section forwards p st other end' ys same (slid_first i q at leads run) =
    let on = (forwards i p q at (inl leads)).0 in
    let more = goes_on forwards run in
    absurd (omega (arith, on, more))
when_rested templates section forwards p st other end' ys same (sent_first i q t r rest at leads fit run is) =
    let on = (forwards i p q at (inr (t, class_of r, leads))).0 in
    let more = goes_on forwards run in
    absurd (omega (arith, on, more))

when_slid : (templates : List Template) (section : List Instr) → LeadsForwards templates section → (i : Instr) (p q s : ℕ) (st end : State) (xs : List Exchange)
    → slice_get section p ≡ Some i → Slides i p q → q ≤ s → EndsAlike templates section q (after_slide i st) xs s end
    → (other end' : State) (ys : List Exchange) → HaveSameKinds st other → edges_of xs ≡ edges_of ys
    → RunBegins templates section p other ys s end' → HaveSameKinds end end'
when_slid templates section forwards i p q s st end xs at leads more alike other end' ys same edges (rested e f g) =
    let on = (forwards i p q at (inl leads)).0 in
    absurd (omega (arith, on, more, e))
when_slid templates section forwards i p q s st end xs at leads more alike other end' ys same edges (slid_first j r there on run) =
    let one : j ≡ i = some_is j i (sym there ∙ at) in
    let place : r ≡ q = slides_once i p r q (subst (λ i. Slides i p r) one on) leads in
    let moved = subst (λ i. IsRun templates section r (after_slide i other) ys s end') one run in
    alike (after_slide i other) end' ys (slid_alike i st other same) edges (subst (λ q. IsRun templates section q (after_slide i other) ys s end') place moved)
when_slid templates section forwards i p q s st end xs at leads more alike other end' ys same edges (sent_first j u t r rest there on fit run is) =
    let one : j ≡ i = some_is j i (sym there ∙ at) in
    absurd (slides_or_sends templates i p q u t (class_of r) leads (subst (λ i. Sends templates i t (class_of r) u) one on))

when_sent : (templates : List Template) (section : List Instr) → LeadsForwards templates section
    → (i : Instr) (p q s : ℕ) (st end : State) (t : Template) (r : Reply)
    (xs : List Exchange) → slice_get section p ≡ Some i → Sends templates i t (class_of r) q → is_fit_for t.verb r ≡ true
    → EndsAlike templates section q (after_reply t r st) xs s end
    → (other end' : State) (ys : List Exchange) → HaveSameKinds st other → (t, class_of r) ∷ edges_of xs ≡ edges_of ys
    → RunBegins templates section p other ys s end' → HaveSameKinds end end'
when_sent templates section forwards i p q s st end t r xs at leads fit alike other end' ys same edges (rested e f g) =
    let none : (t, class_of r) ∷ edges_of xs ≡ [] = edges ∙ ap edges_of g in
    absurd (cc)
when_sent templates section forwards i p q s st end t r xs at leads fit alike other end' ys same edges (slid_first j u there on run) =
    let one : j ≡ i = some_is j i (sym there ∙ at) in
    absurd (slides_or_sends templates i p u q t (class_of r) (subst (λ i. Slides i p u) one on) leads)
when_sent templates section forwards i p q s st end t r xs at leads fit alike other end' ys same edges (sent_first j u t' r' rest there on fit' run is) =
    let one : j ≡ i = some_is j i (sym there ∙ at) in
    let both : (t, class_of r) ∷ edges_of xs ≡ (t', class_of r') ∷ edges_of rest = edges ∙ ap edges_of is in
    let first : (t, class_of r) ≡ (t', class_of r') = head_is (t, class_of r) (t', class_of r') (edges_of xs) (edges_of rest) both in
    let others = rest_is (t, class_of r) (t', class_of r') (edges_of xs) (edges_of rest) both in
    let sent : t ≡ t' = ap (λ (e : Edge). e.0) first in
    let classes : class_of r ≡ class_of r' = ap (λ (e : Edge). e.1) first in
    let here : Sends templates i t' (class_of r') q = subst (λ (e : Edge). Sends templates i e.0 e.1 q) first leads in
    let place : u ≡ q = sends_once templates i t' (class_of r') u q (subst (λ i. Sends templates i t' (class_of r') u) one on) here in
    let fits = subst (λ (t : Template). is_fit_for t.verb r ≡ true) sent fit in
    let kinds = answered_alike t' r r' st other fits fit' classes same in
    alike (after_reply t' r' other) end' rest
    (subst (λ t. HaveSameKinds (after_reply t r st) (after_reply t' r' other)) (sym sent) kinds) others
    (subst (λ q. IsRun templates section q (after_reply t' r' other) rest s end') place run)

ends_alike : (templates : List Template) (section : List Instr) → LeadsForwards templates section → {p q : ℕ} {st end : State} {xs : List Exchange}
    → IsRun templates section p st xs q end → EndsAlike templates section p st xs q end
ends_alike templates section forwards (rests {p = p} {st = st}) other end' ys same edges run =
    when_rested templates section forwards p st other end' ys same (run_begins run)
ends_alike templates section forwards (slides {p = p} {q = q} {r = s} {st = st} {st' = end} {exchanges = xs} i at leads more) other end' ys same edges run =
    when_slid templates section forwards i p q s st end xs at leads (goes_on forwards more) (ends_alike templates section forwards more) other end' ys same
    edges (run_begins run)
ends_alike templates section forwards (sends {p = p} {q = q} {r = s} {st = st} {st' = end} {exchanges = xs} {t = t} {reply = r} i at leads fit more) other
    end' ys same edges run =
    when_sent templates section forwards i p q s st end t r xs at leads fit (ends_alike templates section forwards more) other end' ys same
    edges (run_begins run)

pub kinds_follow_edges : KindsFollowEdges
kinds_follow_edges templates section p q st other end end' xs ys forwards same edges run run' =
    ends_alike templates section forwards run other end' ys same edges run'

-- ---- other exchanges by the same edges

-- from this state too, these exchanges lead to the place, in a state of the same kinds
abbrev AlsoLeads : List Template → List Instr → ℕ → State → List Exchange → ℕ → State → Type 0
AlsoLeads templates section p other ys q end = (end' : State) × IsRun templates section p other ys q end' × HaveSameKinds end end'

sent_alike : (templates : List Template) (section : List Instr) (i : Instr) (p q s : ℕ) (st other end : State) (t : Template) (r : Reply) (xs : List Exchange)
    → slice_get section p ≡ Some i → Sends templates i t (class_of r) q → is_fit_for t.verb r ≡ true → HaveSameKinds st other
    → ((other : State) (ys : List Exchange) → HaveSameKinds (after_reply t r st) other → edges_of xs ≡ edges_of ys → All IsFit ys
    → AlsoLeads templates section q other ys s end)
    → (ys : List Exchange) → (t, class_of r) ∷ edges_of xs ≡ edges_of ys → All IsFit ys → AlsoLeads templates section p other ys s end
sent_alike templates section i p q s st other end t r xs at leads fit same others [] edges fits = absurd (cc)
sent_alike templates section i p q s st other end t r xs at leads fit same others ((t', r') ∷ ys) edges fits =
    let first : (t, class_of r) ≡ (t', class_of r') = head_is (t, class_of r) (t', class_of r') (edges_of xs) (edges_of ys) edges in
    let rest = rest_is (t, class_of r) (t', class_of r') (edges_of xs) (edges_of ys) edges in
    let sent : t ≡ t' = ap (λ (e : Edge). e.0) first in
    let classes : class_of r ≡ class_of r' = ap (λ (e : Edge). e.1) first in
    let fit' : is_fit_for t'.verb r' ≡ true = All-head IsFit (t', r') ys fits in
    let here : Sends templates i t' (class_of r') q = subst (λ (e : Edge). Sends templates i e.0 e.1 q) first leads in
    let kinds = answered_alike t' r r' st other (subst (λ (t : Template). is_fit_for t.verb r ≡ true) sent fit) fit' classes same in
    let more = others (after_reply t' r' other) ys (subst (λ t. HaveSameKinds (after_reply t r st) (after_reply t' r' other)) (sym sent) kinds) rest
    (All-tail IsFit (t', r') ys fits) in
    (more.0, sends i at here fit' more.1, more.2)

lead_alike : (templates : List Template) (section : List Instr) → {p q : ℕ} {st end : State} {xs : List Exchange}
    → IsRun templates section p st xs q end → (other : State) (ys : List Exchange) → HaveSameKinds st other → edges_of xs ≡ edges_of ys
    → All IsFit ys → AlsoLeads templates section p other ys q end
lead_alike templates section rests other [] same edges fits = (other, rests, same)
lead_alike templates section rests other (y ∷ ys) same edges fits = absurd (cc)
lead_alike templates section (slides {st = st} i at leads more) other ys same edges fits =
    let on = lead_alike templates section more (after_slide i other) ys (slid_alike i st other same) edges fits in
    (on.0, slides i at leads on.1, on.2)
lead_alike templates section (sends {p = p} {q = q} {r = s} {st = st} {st' = end} {exchanges = xs} {t = t} {reply = r} i at leads fit more) other
    ys same edges fits =
    sent_alike templates section i p q s st other end t r xs at leads fit same (lead_alike templates section more) ys edges fits

pub edges_lead_alike : EdgesLeadAlike
edges_lead_alike templates section p q st other end xs ys same edges fits run = lead_alike templates section run other ys same edges fits
