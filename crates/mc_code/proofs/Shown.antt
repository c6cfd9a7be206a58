-- The cas uniques that variables have were shown.
use Rattle.std.proofs.Common.{◌≡◌, ◌⊎◌, inl, inr, ℕ, zero, suc, Bool, true, false, Some, None, List, [], ◌∷◌, slice_get, slice_set, refl, ap, if◌then◌else◌}
use Rattle.mc_protocol.specs.{declared.request.Verb.Verb, declared.reply.Reply.Reply, Legal.is_fit_for}
use Rattle.mc_protocol.specs.declared.request.Verb.TheVariants as verb
use Rattle.mc_protocol.specs.declared.reply.Reply.TheVariants as reply
use Rattle.mc_script.specs.declared.step.Template.{Template}
use Rattle.mc_code.specs.Runs.{Exchange, after_slide, IsRun, rests, slides, sends}
use Rattle.mc_code.specs.{declared.instr.Instr.Instr, declared.kind.Kind.Kind, NumberLaws.Holds, NumberLaws.IsShownIn, NumberLaws.NumbersWereShown}
use Rattle.mc_code.specs.{NumberLaws.Shows, States.Tagged, States.State, States.after_reply, States.is_number, States.shown_of}
use Rattle.mc_code.specs.declared.instr.Instr.TheVariants as instr
use Rattle.mc_code.specs.declared.kind.Kind.TheVariants as kind
use Rattle.mc_code.proofs.LookUps.{some_is}

-- what stands at a place after one was set
set_get : {X : Type 0} (xs : List X) (i n : ℕ) (x y : X) → slice_get (slice_set xs i x) n ≡ Some y → (slice_get xs n ≡ Some y) ⊎ (x ≡ y)
set_get [] i n x y e = absurd (cc)
set_get (z ∷ xs) zero zero x y e = inr (some_is x y e)
set_get (z ∷ xs) zero (suc n) x y e = inl e
set_get (z ∷ xs) (suc i) zero x y e = inl e
set_get (z ∷ xs) (suc i) (suc n) x y e = set_get xs i n x y e

-- ---- what shows a cas unique

gets_hit : (v : Verb) (flags number : ℕ) (body : List ℕ) → is_fit_for v (reply.Hit flags body (Some number)) ≡ true → v ≡ verb.Gets
gets_hit verb.Gets flags number body fit = refl
gets_hit verb.Get flags number body fit = absurd (cc)
gets_hit verb.Set flags number body fit = absurd (cc)
gets_hit verb.Add flags number body fit = absurd (cc)
gets_hit verb.Replace flags number body fit = absurd (cc)
gets_hit verb.Append flags number body fit = absurd (cc)
gets_hit verb.Prepend flags number body fit = absurd (cc)
gets_hit verb.Cas flags number body fit = absurd (cc)
gets_hit verb.Incr flags number body fit = absurd (cc)
gets_hit verb.Decr flags number body fit = absurd (cc)
gets_hit verb.Delete flags number body fit = absurd (cc)
gets_hit verb.Touch flags number body fit = absurd (cc)

cas_key : (k key : ℕ) → ◌≡◌ {A = Kind} (kind.Cas k) (kind.Cas key) → k ≡ key
cas_key k key e = cc

unbound_apart : (key : ℕ) → ◌≡◌ {A = Kind} kind.Unbound (kind.Cas key) → ⊥
unbound_apart key e = absurd (cc)

num_apart : (key : ℕ) → ◌≡◌ {A = Kind} kind.Num (kind.Cas key) → ⊥
num_apart key e = absurd (cc)

kinds_are : (x y : Tagged) → x ≡ y → x.0 ≡ y.0
kinds_are x y e = ap (λ (x : Tagged). x.0) e

numbers_are : (x y : Tagged) → x ≡ y → x.1 ≡ y.1
numbers_are x y e = ap (λ (x : Tagged). x.1) e

nothing_apart : (key number : ℕ) → ◌≡◌ {A = Tagged} (kind.Unbound, 0) (kind.Cas key, number) → ⊥
nothing_apart key number e = unbound_apart key (kinds_are (kind.Unbound, 0) (kind.Cas key, number) e)

shown_by : (t : Template) (r : Reply) (key number : ℕ) → is_fit_for t.verb r ≡ true → shown_of t.key r ≡ (kind.Cas key, number) → Shows key number (t, r)
shown_by t (reply.Hit flags body (Some n)) key number fit e = (
  flags,
  body,
  gets_hit t.verb flags n body fit,
  cas_key t.key key (kinds_are (kind.Cas t.key, n) (kind.Cas key, number) e),
  ap (λ n. reply.Hit flags body (Some n)) (numbers_are (kind.Cas t.key, n) (kind.Cas key, number) e),
)
shown_by t (reply.Hit flags body None) key number fit e = absurd (nothing_apart key number e)
shown_by t (reply.Number n) key number fit e = absurd (num_apart key (kinds_are (kind.Num, n) (kind.Cas key, number) e))
shown_by t reply.Stored key number fit e = absurd (nothing_apart key number e)
shown_by t reply.NotStored key number fit e = absurd (nothing_apart key number e)
shown_by t reply.Exists key number fit e = absurd (nothing_apart key number e)
shown_by t reply.NotFound key number fit e = absurd (nothing_apart key number e)
shown_by t reply.Miss key number fit e = absurd (nothing_apart key number e)
shown_by t reply.Deleted key number fit e = absurd (nothing_apart key number e)
shown_by t reply.Touched key number fit e = absurd (nothing_apart key number e)
shown_by t reply.NotNumber key number fit e = absurd (nothing_apart key number e)

-- ---- along a run

-- a variable has it, the last reply showed it, or these exchanges do
abbrev WasShown : State → List Exchange → ℕ → ℕ → ℕ → Type 0
WasShown st exchanges variable key number =
    Holds st variable key number ⊎ ((st.last ≡ (kind.Cas key, number)) ⊎ IsShownIn key number exchanges)

before_bind : (v : ℕ) (st : State) (b : Bool) (exchanges : List Exchange) (n key number : ℕ)
    → WasShown (if b then record { variables = slice_set st.variables v st.last; last = st.last } else st) exchanges n key number
    → WasShown st exchanges n key number
before_bind v st true exchanges n key number (inl e) = by_place (set_get st.variables v n st.last (kind.Cas key, number) e)
  where
    by_place : (slice_get st.variables n ≡ Some (kind.Cas key, number)) ⊎ (st.last ≡ (kind.Cas key, number)) → WasShown st exchanges n key number
    by_place (inl e) = inl e
    by_place (inr e) = inr (inl e)
before_bind v st true exchanges n key number (inr e) = inr e
before_bind v st false exchanges n key number shown = shown

before_slide : (i : Instr) (st : State) (exchanges : List Exchange) (n key number : ℕ)
    → WasShown (after_slide i st) exchanges n key number → WasShown st exchanges n key number
before_slide (instr.Bind v) st exchanges n key number shown = before_bind v st (is_number st.last.0) exchanges n key number shown
before_slide (instr.Goto place) st exchanges n key number shown = shown
before_slide (instr.Send t next) st exchanges n key number shown = shown
before_slide instr.Halt st exchanges n key number shown = shown

before_send : (t : Template) (r : Reply) (st : State) (exchanges : List Exchange) (n key number : ℕ) → is_fit_for t.verb r ≡ true
    → WasShown (after_reply t r st) exchanges n key number → WasShown st ((t, r) ∷ exchanges) n key number
before_send t r st exchanges n key number fit (inl e) = inl e
before_send t r st exchanges n key number fit (inr (inl e)) = inr (inr (inl (shown_by t r key number fit e)))
before_send t r st exchanges n key number fit (inr (inr e)) = inr (inr (inr e))

was_shown : {templates : List Template} {section : List Instr} {p q : ℕ} {st end : State} {exchanges : List Exchange}
    → IsRun templates section p st exchanges q end → (n key number : ℕ) → Holds end n key number → WasShown st exchanges n key number
was_shown rests n key number e = inl e
was_shown (slides {st = st} {exchanges = exchanges} i at leads run) n key number e = before_slide i st exchanges n key number (was_shown run n key number e)
was_shown (sends {st = st} {exchanges = exchanges} {t = t} {reply = r} i at leads fit run) n key number e =
    before_send t r st exchanges n key number fit (was_shown run n key number e)

pub numbers_were_shown : NumbersWereShown
numbers_were_shown templates section p q st end exchanges variable key number run e = was_shown run variable key number e
