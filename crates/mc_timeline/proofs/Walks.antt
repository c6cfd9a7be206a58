-- Linearizations, operation by operation.
use Rattle.std.proofs.Common.{◌≡◌, ◌⊎◌, inl, inr, Bool, true, false, is_some, List, [], ◌∷◌, ◌++◌, refl, ap, subst, sym}
use Rattle.mc_history.specs.Distinct.{AreDistinct}
use Rattle.mc_timeline.specs.Walks.{CameNoEarlier, NoneCameBefore, Walks, LinearizationsAreWalks}
use Rattle.mc_timeline.specs.{Members.IsIn, Operations.Operation, Operations.CameBefore, Operations.IsLinearization}
use Rattle.mc_timeline.proofs.Members.{absent, is_absent, among_back}
use Rattle.mc_timeline.proofs.Times.{came_when, last_among, last_if_each, in_time_linear, linear_in_time}

-- ---- a list without one of its items

record Cut (x : Operation) (xs : List Operation) : Type 0 where
  pub front : List Operation
  pub back : List Operation
  pub whole : xs ≡ front ++ x ∷ back

cut_at : (x : Operation) (xs : List Operation) → IsIn x xs → Cut x xs
cut_at x [] h = absurd h
cut_at x (y ∷ xs) (inl same) = record { front = []; back = xs; whole = ap (λ z. z ∷ xs) (sym same) }
cut_at x (y ∷ xs) (inr more) = let c = cut_at x xs more in record { front = y ∷ c.front; back = c.back; whole = ap (λ l. y ∷ l) c.whole }

-- one of the others, or it
others_or_it : (x y : Operation) (front back : List Operation) → IsIn y (front ++ x ∷ back) → (y ≡ x) ⊎ IsIn y (front ++ back)
others_or_it x y [] back (inl same) = inl same
others_or_it x y [] back (inr more) = inr more
others_or_it x y (z ∷ front) back (inl same) = inr (inl same)
others_or_it x y (z ∷ front) back (inr more) = on (others_or_it x y front back more)
  where
    on : (y ≡ x) ⊎ IsIn y (front ++ back) → (y ≡ x) ⊎ IsIn y (z ∷ front ++ back)
    on (inl h) = inl h
    on (inr h) = inr (inr h)

others_among : (x y : Operation) (front back : List Operation) → IsIn y (front ++ back) → IsIn y (front ++ x ∷ back)
others_among x y [] back h = inr h
others_among x y (z ∷ front) back (inl same) = inl same
others_among x y (z ∷ front) back (inr more) = inr (others_among x y front back more)

it_among : (x : Operation) (front back : List Operation) → IsIn x (front ++ x ∷ back)
it_among x front back = among_back x front (x ∷ back) (inl refl)

-- where no item stands twice, it is none of the others
pub distinct_others : (x : Operation) (front back : List Operation) → AreDistinct (front ++ x ∷ back)
    → (IsIn x (front ++ back) → ⊥) × AreDistinct (front ++ back)
distinct_others x [] back d = (absent x back d.0, d.1)
distinct_others x (y ∷ front) back d =
    let rest = distinct_others x front back d.1 in
    ((λ h. by h rest.0), (is_absent y (front ++ back) (λ h. absent y (front ++ x ∷ back) d.0 (others_among x y front back h)), rest.1))
  where
    by : IsIn x (y ∷ front ++ back) → (IsIn x (front ++ back) → ⊥) → ⊥
    by (inl same) never = absent y (front ++ x ∷ back) d.0 (subst (λ z. IsIn z (front ++ x ∷ back)) same (it_among x front back))
    by (inr more) never = never more

-- ---- there

pub first_last : (operations order : List Operation) (x : Operation) → IsLinearization operations (x ∷ order) → NoneCameBefore x.began operations
first_last operations order x l = last_if_each x.began operations (λ y h. by y h (came_when y.answer x.began))
  where
    by : (y : Operation) → IsIn y operations → CameBefore y.answer x.began ⊎ CameNoEarlier y.answer x.began → CameNoEarlier y.answer x.began
    by y h (inr late) = late
    by y h (inl before) = absurd (l.real_time [] x order refl y h before)

pub rest_linear : (operations order : List Operation) (x : Operation) (front back : List Operation) → operations ≡ front ++ x ∷ back
    → AreDistinct (front ++ x ∷ back) → IsLinearization operations (x ∷ order) → IsLinearization (front ++ back) order
rest_linear operations order x front back e d l =
    in_time_linear (front ++ back) order l.distinct.1 only answered (linear_in_time operations (x ∷ order) l).1
  where
    only : (y : Operation) → IsIn y order → IsIn y (front ++ back)
    only y h = by (others_or_it x y front back (subst (λ xs. IsIn y xs) e (l.only y (inr h))))
      where
        by : (y ≡ x) ⊎ IsIn y (front ++ back) → IsIn y (front ++ back)
        by (inl same) = absurd (absent x order l.distinct.0 (subst (λ z. IsIn z order) same h))
        by (inr other) = other

    answered : (y : Operation) → IsIn y (front ++ back) → is_some y.answer ≡ true → IsIn y order
    answered y h is = by (l.answered y (subst (λ xs. IsIn y xs) (sym e) (others_among x y front back h)) is)
      where
        by : IsIn y (x ∷ order) → IsIn y order
        by (inl same) = absurd ((distinct_others x front back d).0 (subst (λ z. IsIn z (front ++ back)) same h))
        by (inr more) = more

linear_walks : (operations order : List Operation) → AreDistinct operations → IsLinearization operations order → Walks operations order
linear_walks operations [] d l = λ x h. by x h (is_some x.answer) refl
  where
    by : (x : Operation) → IsIn x operations → (b : Bool) → is_some x.answer ≡ b → is_some x.answer ≡ false
    by x h true e = absurd (l.answered x h e)
    by x h false e = e
linear_walks operations (x ∷ order) d l =
    let c = cut_at x operations (l.only x (inl refl)) in
    let d' : AreDistinct (c.front ++ x ∷ c.back) = subst AreDistinct c.whole d in (
      c.front,
      c.back,
      c.whole,
      first_last operations order x l,
      linear_walks (c.front ++ c.back) order (distinct_others x c.front c.back d').1 (rest_linear operations order x c.front c.back c.whole d' l),
    )

-- ---- and back

pub more_linear : (operations order : List Operation) (x : Operation) (front back : List Operation) → operations ≡ front ++ x ∷ back
    → AreDistinct (front ++ x ∷ back) → NoneCameBefore x.began operations → IsLinearization (front ++ back) order → IsLinearization operations (x ∷ order)
more_linear operations order x front back e d last l =
    in_time_linear operations (x ∷ order) (is_absent x order (λ h. (distinct_others x front back d).0 (l.only x h)), l.distinct) only answered (
      (last_among x.began operations x (here x refl) last, last_if_each x.began order (λ y h. last_among x.began operations y (there y (l.only y h)) last)),
      linear_in_time (front ++ back) order l,
    )
  where
    here : (y : Operation) → y ≡ x → IsIn y operations
    here y same = subst (λ xs. IsIn y xs) (sym e) (subst (λ z. IsIn z (front ++ x ∷ back)) (sym same) (it_among x front back))

    there : (y : Operation) → IsIn y (front ++ back) → IsIn y operations
    there y h = subst (λ xs. IsIn y xs) (sym e) (others_among x y front back h)

    only : (y : Operation) → IsIn y (x ∷ order) → IsIn y operations
    only y (inl same) = here y same
    only y (inr more) = there y (l.only y more)

    answered : (y : Operation) → IsIn y operations → is_some y.answer ≡ true → IsIn y (x ∷ order)
    answered y h is = by (others_or_it x y front back (subst (λ xs. IsIn y xs) e h))
      where
        by : (y ≡ x) ⊎ IsIn y (front ++ back) → IsIn y (x ∷ order)
        by (inl same) = inl same
        by (inr other) = inr (l.answered y other is)

walks_linear : (operations order : List Operation) → AreDistinct operations → Walks operations order → IsLinearization operations order
walks_linear operations [] d w = in_time_linear operations [] tt (λ x h. absurd h) (λ x h is. let no = w x h in absurd (cc)) tt
walks_linear operations (x ∷ order) d w =
    let d' : AreDistinct (w.0 ++ x ∷ w.1) = subst AreDistinct w.2 d in
    more_linear operations order x w.0 w.1 w.2 d' w.3 (walks_linear (w.0 ++ w.1) order (distinct_others x w.0 w.1 d').1 w.4)

pub are_walks : LinearizationsAreWalks
are_walks operations order d = (linear_walks operations order d, walks_linear operations order d)
