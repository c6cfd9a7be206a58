-- Only the next operation of each client matters.
use Rattle.std.proofs.Common.{◌≡◌, ◌⊎◌, inl, inr, ℕ, Bool, true, false, is_some, Option, Some, None, List, [], ◌∷◌, ◌++◌}
use Rattle.std.proofs.Common.{append_assoc, refl, ap, subst, sym, ◌∙◌, arith}
use Rattle.mc_history.specs.Distinct.{AreDistinct}
use Rattle.mc_timeline.specs.Operations.{Answer, Operation, CameBefore, IsLinearization}
use Rattle.mc_timeline.specs.Queues.{Queues, joined, IsInTurn, AreInTurn, NoNextCameBefore, MayEnd, WalksByNext, OnlyTheNextMatter}
use Rattle.mc_timeline.specs.{Members.IsIn, Walks.CameNoEarlier, Walks.NoneCameBefore}
use Rattle.mc_timeline.proofs.Walks.{first_last, rest_linear, more_linear, distinct_others}
use Rattle.mc_timeline.proofs.{Members.among_back, Members.among_parts, Times.in_time_linear}

-- ---- one client

in_turn_rest : (x : Operation) (queue : List Operation) → IsInTurn (x ∷ queue) → IsInTurn queue
in_turn_rest x [] t = tt
in_turn_rest x (y ∷ queue) t = t.2

after_itself : (x : Operation) (queue : List Operation) → IsInTurn (x ∷ queue) → CameNoEarlier x.answer x.began
after_itself x [] t = t
after_itself x (y ∷ queue) t = t.0

-- what was answered before one began and after it began itself, was answered before all that follow began
answered_first : (answer next : Option Answer) (began later : ℕ) → CameBefore answer began → CameNoEarlier next began → CameBefore next later
    → CameBefore answer later
answered_first None next began later a b c = a
answered_first (Some answer) None began later a b c = absurd c
answered_first (Some answer) (Some next) began later a b c = omega arith

-- the first of a client was answered before every other began
before_others : (x y : Operation) (queue : List Operation) → IsInTurn (x ∷ queue) → IsIn y queue → CameBefore x.answer y.began
before_others x y [] t h = absurd h
before_others x y (z ∷ queue) t (inl same) = subst (λ w. CameBefore x.answer w.began) (sym same) t.1
before_others x y (z ∷ queue) t (inr more) =
    answered_first x.answer z.answer z.began y.began t.1 (after_itself z queue t.2) (before_others z y queue t.2 more)

-- and where it came no earlier than a time, neither did theirs
last_too : (answer next : Option Answer) (began time : ℕ) → CameBefore answer began → CameNoEarlier next began → CameNoEarlier answer time
    → CameNoEarlier next time
last_too None next began time a b c = absurd a
last_too (Some answer) None began time a b c = tt
last_too (Some answer) (Some next) began time a b c = omega arith

queue_last : (time : ℕ) (x : Operation) (queue : List Operation) → IsInTurn (x ∷ queue) → CameNoEarlier x.answer time → NoneCameBefore time (x ∷ queue)
queue_last time x [] t h = (h, tt)
queue_last time x (y ∷ queue) t h =
    (h, queue_last time y queue t.2 (last_too x.answer y.answer y.began time t.1 (after_itself y queue t.2) h))

last_both : (time : ℕ) (xs ys : List Operation) → NoneCameBefore time xs → NoneCameBefore time ys → NoneCameBefore time (xs ++ ys)
last_both time [] ys hx hy = hy
last_both time (x ∷ xs) ys hx hy = (hx.0, last_both time xs ys hx.1 hy)

last_back : (time : ℕ) (xs ys : List Operation) → NoneCameBefore time (xs ++ ys) → NoneCameBefore time ys
last_back time [] ys h = h
last_back time (x ∷ xs) ys h = last_back time xs ys h.1

was_answered : (answer : Option Answer) (time : ℕ) → CameBefore answer time → is_some answer ≡ false → ⊥
was_answered None time before none = before
was_answered (Some answer) time before none = absurd (cc)

-- ---- all clients

next_last : (time : ℕ) (queues : Queues) → NoneCameBefore time (joined queues) → NoNextCameBefore time queues
next_last time [] h = tt
next_last time ([] ∷ queues) h = next_last time queues h
next_last time ((x ∷ queue) ∷ queues) h = (h.0, next_last time queues (last_back time queue (joined queues) h.1))

all_last : (time : ℕ) (queues : Queues) → AreInTurn queues → NoNextCameBefore time queues → NoneCameBefore time (joined queues)
all_last time [] t h = tt
all_last time ([] ∷ queues) t h = all_last time queues t.1 h
all_last time ((x ∷ queue) ∷ queues) t h =
    last_both time (x ∷ queue) (joined queues) (queue_last time x queue t.0 h.0) (all_last time queues t.1 h.1)

may_end : (queues : Queues) → AreInTurn queues → ((x : Operation) → IsIn x (joined queues) → is_some x.answer ≡ false) → MayEnd queues
may_end [] t none = tt
may_end ([] ∷ queues) t none = may_end queues t.1 none
may_end ((x ∷ []) ∷ queues) t none = (none x (inl refl), may_end queues t.1 (λ y h. none y (inr h)))
may_end ((x ∷ y ∷ queue) ∷ queues) t none = was_answered x.answer y.began t.0.1 (none x (inl refl))

ended : (queues : Queues) → MayEnd queues → (x : Operation) → IsIn x (joined queues) → is_some x.answer ≡ false
ended [] e x h = absurd h
ended ([] ∷ queues) e x h = ended queues e x h
ended ((y ∷ []) ∷ queues) e x (inl same) = subst (λ z. is_some z.answer ≡ false) (sym same) e.0
ended ((y ∷ []) ∷ queues) e x (inr more) = ended queues e.1 x more
ended ((y ∷ z ∷ queue) ∷ queues) e x h = absurd e

joined_both : (front back : Queues) → joined (front ++ back) ≡ joined front ++ joined back
joined_both [] back = refl
joined_both (queue ∷ front) back = ap (λ l. queue ++ l) (joined_both front back) ∙ sym (append_assoc queue (joined front) (joined back))

in_turn_after : (front : Queues) (x : Operation) (rest : List Operation) (back : Queues) → AreInTurn (front ++ (x ∷ rest) ∷ back)
    → AreInTurn (front ++ rest ∷ back)
in_turn_after [] x rest back t = (in_turn_rest x rest t.0, t.1)
in_turn_after (queue ∷ front) x rest back t = (t.0, in_turn_after front x rest back t.1)

-- ---- the next of a client

record NextOf (x : Operation) (queues : Queues) : Type 0 where
  pub front : Queues
  pub rest : List Operation
  pub back : Queues
  pub whole : queues ≡ front ++ (x ∷ rest) ∷ back

-- an operation before which none of these was answered is the next of its client
next_of : (x : Operation) (queues : Queues) → AreInTurn queues → IsIn x (joined queues)
    → ((y : Operation) → IsIn y (joined queues) → CameBefore y.answer x.began → ⊥) → NextOf x queues
next_of x [] t h none = absurd h
next_of x ([] ∷ queues) t h none =
    let n = next_of x queues t.1 h none in
    record { front = [] ∷ n.front; rest = n.rest; back = n.back; whole = ap (λ l. [] ∷ l) n.whole }
next_of x ((y ∷ queue) ∷ queues) t (inl same) none =
    record { front = []; rest = queue; back = queues; whole = ap (λ z. (z ∷ queue) ∷ queues) (sym same) }
next_of x ((y ∷ queue) ∷ queues) t (inr more) none =
    by (among_parts x queue (joined queues) more) (λ h. next_of x queues t.1 h (λ z k. none z (inr (among_back z queue (joined queues) k))))
  where
    by : IsIn x queue ⊎ IsIn x (joined queues) → (IsIn x (joined queues) → NextOf x queues) → NextOf x ((y ∷ queue) ∷ queues)
    by (inl here) later = absurd (none y (inl refl) (before_others y x queue t.0 here))
    by (inr there) later =
        let n = later there in
        record { front = (y ∷ queue) ∷ n.front; rest = n.rest; back = n.back; whole = ap (λ l. (y ∷ queue) ∷ l) n.whole }

-- ---- the law

to_next : (queues : Queues) (order : List Operation) → AreInTurn queues → AreDistinct (joined queues) → IsLinearization (joined queues) order
    → WalksByNext queues order
to_next queues [] t d l = may_end queues t (λ x h. unanswered x h (is_some x.answer) refl)
  where
    unanswered : (x : Operation) → IsIn x (joined queues) → (b : Bool) → is_some x.answer ≡ b → is_some x.answer ≡ false
    unanswered x h true e = absurd (l.answered x h e)
    unanswered x h false e = e
to_next queues (x ∷ order) t d l =
    let n = next_of x queues t (l.only x (inl refl)) (λ y h before. l.real_time [] x order refl y h before) in
    let whole = ap joined n.whole ∙ joined_both n.front ((x ∷ n.rest) ∷ n.back) in
    let d' : AreDistinct (joined n.front ++ x ∷ (n.rest ++ joined n.back)) = subst AreDistinct whole d in
    let less = distinct_others x (joined n.front) (n.rest ++ joined n.back) d' in
    let after = sym (joined_both n.front (n.rest ∷ n.back)) in (
      n.front,
      n.rest,
      n.back,
      n.whole,
      next_last x.began queues (first_last (joined queues) order x l),
      to_next (n.front ++ n.rest ∷ n.back) order (in_turn_after n.front x n.rest n.back (subst AreInTurn n.whole t)) (subst AreDistinct after less.1)
          (subst (λ xs. IsLinearization xs order) after (rest_linear (joined queues) order x (joined n.front) (n.rest ++ joined n.back) whole d' l)),
    )

from_next : (queues : Queues) (order : List Operation) → AreInTurn queues → AreDistinct (joined queues) → WalksByNext queues order
    → IsLinearization (joined queues) order
from_next queues [] t d w = in_time_linear (joined queues) [] tt (λ x h. absurd h) (λ x h is. let no = ended queues w x h in absurd (cc)) tt
from_next queues (x ∷ order) t d (front, rest, back, whole, last, w) =
    let is = ap joined whole ∙ joined_both front ((x ∷ rest) ∷ back) in
    let d' : AreDistinct (joined front ++ x ∷ (rest ++ joined back)) = subst AreDistinct is d in
    let less = distinct_others x (joined front) (rest ++ joined back) d' in
    let after = joined_both front (rest ∷ back) in
    more_linear (joined queues) order x (joined front) (rest ++ joined back) is d' (all_last x.began queues t last)
    (subst (λ xs. IsLinearization xs order) after
    (from_next (front ++ rest ∷ back) order (in_turn_after front x rest back (subst AreInTurn whole t)) (subst AreDistinct (sym after) less.1) w))

pub only_next : OnlyTheNextMatter
only_next queues order t d = (to_next queues order t d, from_next queues order t d)
