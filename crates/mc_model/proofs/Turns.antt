-- Whose turn it is.
use Rattle.std.proofs.Common.{◌≡◌, Bool, true, false, not, ◌&&◌, ◌||◌, is_some, List, [], ◌∷◌, ◌++◌, refl, ap, arith}
use Rattle.std.proofs.lemmas.Bool.{and_parts, and_from, not-false}
use Rattle.mc_model.specs.History.{are_answered, is_open_at_the_end, is_none_sent, has_no_branch, is_in_turn, comes_late}
use Rattle.mc_model.specs.{Types.Actor, Types.Sent, Sections.Sections, Sections.with_sent, Next.may_come}
use Rattle.mc_protocol.specs.declared.actor.Actor.TheVariants as actor

-- one more request may come where all were answered
pub open_added : (xs : List Sent) (sent : Sent) → is_open_at_the_end (xs ++ sent ∷ []) ≡ are_answered xs
open_added [] sent = refl
open_added (x ∷ []) sent = refl
open_added (x ∷ y ∷ xs) sent = ap (λ b. is_some x.reply && b) (open_added (y ∷ xs) sent)

-- a list with one more request is not empty
some_added : (xs : List Sent) (sent : Sent) → is_none_sent (xs ++ sent ∷ []) ≡ false
some_added [] sent = refl
some_added (x ∷ xs) sent = refl

-- requests that were all answered have their place
open-answered : (xs : List Sent) → are_answered xs ≡ true → is_open_at_the_end xs ≡ true
open-answered [] all = refl
open-answered (x ∷ []) all = refl
open-answered (x ∷ y ∷ xs) all =
    let parts = and_parts (is_some x.reply) (are_answered (y ∷ xs)) all in
    and_from (is_some x.reply) (is_open_at_the_end (y ∷ xs)) parts.0 (open-answered (y ∷ xs) parts.1)

by_p : (p a b none answered more : Bool) → (answered ≡ true → p ≡ true)
    → (not none || not (answered && a && b && (more || none))) ≡ not (p && a && b && (answered || none) && (none && answered))
by_p p a b none answered more first = grind arith

by_a : (p a b no_a no_b answered own : Bool) → (own ≡ true → a ≡ true)
    → not (p && own && b && (answered || (false && no_b))) ≡ not (p && a && b && (answered || (no_a && no_b)) && (answered && own))
by_a p a b no_a no_b answered own first = grind arith

by_b : (p a b no_a no_b answered own : Bool) → (own ≡ true → b ≡ true)
    → not (p && a && own && (answered || (no_a && false))) ≡ not (p && a && b && (answered || (no_a && no_b)) && (answered && own))
by_b p a b no_a no_b answered own first = grind arith

-- a request is in turn exactly if those before it are and it may come
pub turn_added : (s : Sections) (who : Actor) (sent : Sent)
    → (comes_late s who || not (is_in_turn (with_sent s who sent))) ≡ not (is_in_turn s && may_come s who)
turn_added s actor.P sent =
    rw (open_added s.p sent) (by_p (is_open_at_the_end s.p) (is_open_at_the_end s.a) (is_open_at_the_end s.b) (has_no_branch s) (are_answered s.p)
    (are_answered (s.p ++ sent ∷ [])) (open-answered s.p))
turn_added s actor.A sent =
    rw (open_added s.a sent, some_added s.a sent) (by_a (is_open_at_the_end s.p) (is_open_at_the_end s.a) (is_open_at_the_end s.b) (is_none_sent s.a)
    (is_none_sent s.b) (are_answered s.p) (are_answered s.a) (open-answered s.a))
turn_added s actor.B sent =
    rw (open_added s.b sent, some_added s.b sent) (by_b (is_open_at_the_end s.p) (is_open_at_the_end s.a) (is_open_at_the_end s.b) (is_none_sent s.a)
    (is_none_sent s.b) (are_answered s.p) (are_answered s.b) (open-answered s.b))

-- a list without a request is empty
none_sent : (xs : List Sent) → is_none_sent xs ≡ true → xs ≡ []
none_sent [] none = refl
none_sent (x ∷ xs) none = cc

-- no branch has a request where one of P is not late
pub no_branch : (s : Sections) → comes_late s actor.P ≡ false → (s.a ≡ []) × (s.b ≡ [])
no_branch s late =
    let none = and_parts (is_none_sent s.a) (is_none_sent s.b) (not-false (has_no_branch s) late) in
    (none_sent s.a none.0, none_sent s.b none.1)
