-- P's requests begin and are answered before those of A and B begin.
use Rattle.std.proofs.Common.{◌≡◌, ◌<◌, ◌≤◌, ◌⊎◌, inl, inr, ℕ, suc, Bool, true, false, not, ◌&&◌, ◌||◌, Option, Some, None}
use Rattle.std.proofs.Common.{List, [], ◌∷◌, ◌++◌, append-nil, refl, ap, ap₂, subst, sym, ◌∙◌, arith}
use Rattle.std.proofs.lemmas.Bool.{and_parts, and_from, not-true}
use Rattle.mc_protocol.specs.declared.{actor.Actor.Actor, request.Request.Request, reply.Reply.Reply}
use Rattle.mc_protocol.specs.declared.actor.Actor.TheVariants as actor
use Rattle.mc_model.specs.declared.note.Note.TheVariants as note
use Rattle.mc_model.specs.History.{is_none_sent, comes_late}
use Rattle.mc_model.specs.Notes.{Noted, are_in_order, is_out_of_order, is_waiting, begun_by, requests_in, with_replies, sections_in}
use Rattle.mc_model.proofs.Noting.{requests-push}
use Rattle.mc_timeline.specs.{Members.IsIn, Operations.Answer, Operations.Operation}
use Rattle.mc_timeline_of.proofs.ClientQueues.{operation_at, first_reply, queue, began_later}

-- once a branch has begun, P notes nothing
abbrev pub leads : Bool → List Noted → Bool
leads begun [] = true
leads begun ((actor.P, noted) ∷ notes) = not begun && leads begun notes
leads begun ((actor.A, note.Begin request) ∷ notes) = leads true notes
leads begun ((actor.A, note.Reply reply) ∷ notes) = leads begun notes
leads begun ((actor.B, note.Begin request) ∷ notes) = leads true notes
leads begun ((actor.B, note.Reply reply) ∷ notes) = leads begun notes

-- ---- of notes in order

abbrev is_nothing : {X : Type 0} → List X → Bool
is_nothing [] = true
is_nothing (x ∷ xs) = false

abbrev has_begun : List Noted → Bool
has_begun earlier = not (is_nothing (requests_in actor.A earlier) && is_nothing (requests_in actor.B earlier))

none_sent : (requests : List Request) (replies : List Reply) → is_none_sent (with_replies requests replies) ≡ is_nothing requests
none_sent [] replies = refl
none_sent (request ∷ requests) [] = refl
none_sent (request ∷ requests) (reply ∷ replies) = refl

late_is : (earlier : List Noted) → comes_late (sections_in earlier) actor.P ≡ has_begun earlier
late_is earlier = ap₂ (λ a b. not (a && b)) (none_sent _ _) (none_sent _ _)

last_false : (x y : Bool) → (x || y) ≡ false → y ≡ false
last_false true y e = absurd (cc)
last_false false y e = e

-- a note of P comes before a branch has begun
in_time : (earlier : List Noted) (noted : Noted) → is_out_of_order (sections_in earlier) noted ≡ false → noted.0 ≡ actor.P → has_begun earlier ≡ false
in_time earlier (actor.P, note.Begin request) free same =
    sym (late_is earlier)
    ∙ last_false (is_waiting (sections_in earlier) actor.P || is_waiting (sections_in earlier) actor.P) (comes_late (sections_in earlier) actor.P) free
in_time earlier (actor.P, note.Reply reply) free same =
    sym (late_is earlier) ∙ last_false (not (is_waiting (sections_in earlier) actor.P)) (comes_late (sections_in earlier) actor.P) free
in_time earlier (actor.A, noted) free same = absurd (cc)
in_time earlier (actor.B, noted) free same = absurd (cc)

some_last : {X : Type 0} (xs : List X) (x : X) → is_nothing (xs ++ x ∷ []) ≡ false
some_last [] x = refl
some_last (y ∷ ys) x = refl

unbegun : (a b : Bool) → a ≡ false → not (a && b) ≡ true
unbegun a b e = rw e refl

unbegun_last : (a b : Bool) → b ≡ false → not (a && b) ≡ true
unbegun_last true b e = rw e refl
unbegun_last false b e = refl

abbrev one_more : List Noted → Noted → List Noted
one_more earlier noted = earlier ++ noted ∷ []

pushed : (section : Actor) (earlier : List Noted) (noted : Noted)
    → is_nothing (requests_in section (one_more earlier noted)) ≡ is_nothing (requests_in section earlier ++ begun_by section noted)
pushed section earlier noted = ap is_nothing (requests-push section earlier noted)

same_begun : (earlier : List Noted) (noted : Noted) → begun_by actor.A noted ≡ []
    → begun_by actor.B noted ≡ [] → has_begun (one_more earlier noted) ≡ has_begun earlier
same_begun earlier noted a b =
    ap₂ (λ x y. not (x && y))
    (pushed actor.A earlier noted ∙ ap (λ l. is_nothing (requests_in actor.A earlier ++ l)) a ∙ ap is_nothing (append-nil (requests_in actor.A earlier)))
    (pushed actor.B earlier noted ∙ ap (λ l. is_nothing (requests_in actor.B earlier ++ l)) b ∙ ap is_nothing (append-nil (requests_in actor.B earlier)))

leads_from : (earlier notes : List Noted) → are_in_order earlier notes ≡ true → leads (has_begun earlier) notes ≡ true
leads_from earlier [] ordered = refl
leads_from earlier (noted ∷ notes) ordered =
    let parts = and_parts (not (is_out_of_order (sections_in earlier) noted)) (are_in_order (one_more earlier noted) notes) ordered in
    by noted (not-true (is_out_of_order (sections_in earlier) noted) parts.0) (leads_from (one_more earlier noted) notes parts.1)
  where
    by : (noted : Noted) → is_out_of_order (sections_in earlier) noted ≡ false → leads (has_begun (one_more earlier noted)) notes ≡ true
        → leads (has_begun earlier) (noted ∷ notes) ≡ true
    by (actor.P, note.Begin request) free rest =
        and_from (not (has_begun earlier)) (leads (has_begun earlier) notes) (ap not (in_time earlier (actor.P, note.Begin request) free refl))
        (subst (λ b. leads b notes ≡ true) (same_begun earlier (actor.P, note.Begin request) refl refl) rest)
    by (actor.P, note.Reply reply) free rest =
        and_from (not (has_begun earlier)) (leads (has_begun earlier) notes) (ap not (in_time earlier (actor.P, note.Reply reply) free refl))
        (subst (λ b. leads b notes ≡ true) (same_begun earlier (actor.P, note.Reply reply) refl refl) rest)
    by (actor.A, note.Begin request) free rest =
        subst (λ b. leads b notes ≡ true)
        (unbegun (is_nothing (requests_in actor.A (one_more earlier (actor.A, note.Begin request))))
        (is_nothing (requests_in actor.B (one_more earlier (actor.A, note.Begin request))))
        (pushed actor.A earlier (actor.A, note.Begin request) ∙ some_last (requests_in actor.A earlier) request))
        rest
    by (actor.A, note.Reply reply) free rest =
        subst (λ b. leads b notes ≡ true) (same_begun earlier (actor.A, note.Reply reply) refl refl) rest
    by (actor.B, note.Begin request) free rest =
        subst (λ b. leads b notes ≡ true)
        (unbegun_last (is_nothing (requests_in actor.A (one_more earlier (actor.B, note.Begin request))))
        (is_nothing (requests_in actor.B (one_more earlier (actor.B, note.Begin request))))
        (pushed actor.B earlier (actor.B, note.Begin request) ∙ some_last (requests_in actor.B earlier) request))
        rest
    by (actor.B, note.Reply reply) free rest =
        subst (λ b. leads b notes ≡ true) (same_begun earlier (actor.B, note.Reply reply) refl refl) rest

pub prefix_leads : (notes : List Noted) → are_in_order [] notes ≡ true → leads false notes ≡ true
prefix_leads notes ordered = leads_from [] notes ordered

-- ---- times

-- nothing of P is left
none_left : (place : ℕ) (notes : List Noted) → leads true notes ≡ true → (queue actor.P place notes ≡ []) × (first_reply actor.P place notes ≡ None)
none_left place [] l = (refl, refl)
none_left place ((actor.P, noted) ∷ notes) l = absurd (cc)
none_left place ((actor.A, note.Begin request) ∷ notes) l = none_left (suc place) notes l
none_left place ((actor.A, note.Reply reply) ∷ notes) l = none_left (suc place) notes l
none_left place ((actor.B, note.Begin request) ∷ notes) l = none_left (suc place) notes l
none_left place ((actor.B, note.Reply reply) ∷ notes) l = none_left (suc place) notes l

-- a reply, if it came, came before this time
abbrev pub IsOver : Option Answer → ℕ → Type 0
IsOver None time = Unit {0}
IsOver (Some answer) time = answer.time < time

-- the operations of P, and the reply for which P waits, before an operation of a branch
pub record ComesFirst (place : ℕ) (notes : List Noted) (y : Operation) : Type 0 where
  pub reply : IsOver (first_reply actor.P place notes) y.began
  pub began : (x : Operation) → IsIn x (queue actor.P place notes) → x.began < y.began
  pub over : (x : Operation) → IsIn x (queue actor.P place notes) → IsOver x.answer y.began

-- the operation is one of a branch
abbrev pub IsOfBranch : ℕ → List Noted → Operation → Type 0
IsOfBranch place notes y = IsIn y (queue actor.A place notes) ⊎ IsIn y (queue actor.B place notes)

began_from : (place : ℕ) (notes : List Noted) (y : Operation) → IsOfBranch place notes y → place ≤ y.began
began_from place notes y (inl a) = began_later actor.A place notes y a
began_from place notes y (inr b) = began_later actor.B place notes y b

-- what is left of P, where nothing is
nothing_first : (place : ℕ) (notes : List Noted) (y : Operation) → leads true notes ≡ true → ComesFirst place notes y
nothing_first place notes y l =
    let none = none_left place notes l in
    record {
      reply = subst (λ r. IsOver r y.began) (sym none.1) tt;
      began = λ x h. absurd (subst (IsIn x) none.0 h);
      over = λ x h. absurd (subst (IsIn x) none.0 h);
    }

pub comes_first : (begun : Bool) (place : ℕ) (notes : List Noted) (y : Operation) → leads begun notes ≡ true → IsOfBranch place notes y
    → ComesFirst place notes y
comes_first begun place [] y l (inl h) = absurd h
comes_first begun place [] y l (inr h) = absurd h
comes_first begun place ((actor.P, note.Begin request) ∷ notes) y l h =
    let parts = and_parts (not begun) (leads begun notes) l in
    let rest = comes_first begun (suc place) notes y parts.1 h in
    let after = began_from (suc place) notes y h in
    record { reply = rest.reply; began = λ x m. began x m rest after; over = λ x m. over x m rest }
  where
    began : (x : Operation)
        → IsIn x
        (operation_at actor.P place request notes ∷ queue actor.P (suc place) notes)
        → ComesFirst (suc place) notes y → suc place ≤ y.began → x.began < y.began
    began x (inl same) rest after = let e : x.began ≡ place = ap (λ (z : Operation). z.began) same in omega arith
    began x (inr more) rest after = rest.began x more

    over : (x : Operation)
        → IsIn x
        (operation_at actor.P place request notes ∷ queue actor.P (suc place) notes)
        → ComesFirst (suc place) notes y → IsOver x.answer y.began
    over x (inl same) rest = subst (λ (z : Operation). IsOver z.answer y.began) (sym same) rest.reply
    over x (inr more) rest = rest.over x more
comes_first begun place ((actor.P, note.Reply reply) ∷ notes) y l h =
    let parts = and_parts (not begun) (leads begun notes) l in
    let rest = comes_first begun (suc place) notes y parts.1 h in
    let after = began_from (suc place) notes y h in
    record { reply = omega arith; began = rest.began; over = rest.over }
comes_first begun place ((actor.A, note.Begin request) ∷ notes) y l h =
    let all = nothing_first (suc place) notes y l in record { reply = all.reply; began = all.began; over = all.over }
comes_first begun place ((actor.A, note.Reply reply) ∷ notes) y l h =
    let rest = comes_first begun (suc place) notes y l h in record { reply = rest.reply; began = rest.began; over = rest.over }
comes_first begun place ((actor.B, note.Begin request) ∷ notes) y l h =
    let all = nothing_first (suc place) notes y l in record { reply = all.reply; began = all.began; over = all.over }
comes_first begun place ((actor.B, note.Reply reply) ∷ notes) y l h =
    let rest = comes_first begun (suc place) notes y l h in record { reply = rest.reply; began = rest.began; over = rest.over }
