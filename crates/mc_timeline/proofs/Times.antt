-- Orders that keep to the times, and merges of two of them.
use Rattle.std.proofs.Common.{◌≡◌, ◌<◌, ◌≤◌, ◌+◌, ◌⊎◌, inl, inr, ℕ, zero, suc, Bool, true, false, cond, is_some, Option, Some, None}
use Rattle.std.proofs.Common.{List, [], ◌∷◌, ◌++◌, append_assoc, length, filter, refl, ap, subst, sym, arith}
use Rattle.std.proofs.lemmas.Bool.{cases_lt}
use Rattle.mc_history.specs.Distinct.{AreDistinct}
use Rattle.mc_timeline.specs.Operations.{Answer, Operation, CameBefore, IsLinearization}
use Rattle.mc_timeline.specs.{Members.IsIn, Explanations.Effected, Explanations.order_of, Walks.CameNoEarlier, Walks.NoneCameBefore}
use Rattle.mc_timeline.proofs.Members.{among_back, among_parts, in_one_part}
use Rattle.mc_timeline.proofs.Merges.{IsMerge, none, left, right, all_left, all_right}

-- none was answered before it or one that stands before it began
abbrev pub KeepsTime : List Operation → Type 0
KeepsTime [] = Unit {0}
KeepsTime (x ∷ xs) = NoneCameBefore x.began (x ∷ xs) × KeepsTime xs

-- ---- one time

pub came_when : (answer : Option Answer) (time : ℕ) → CameBefore answer time ⊎ CameNoEarlier answer time
came_when None time = inr tt
came_when (Some answer) time = cases_lt answer.time time

not_both : (answer : Option Answer) (time : ℕ) → CameBefore answer time → CameNoEarlier answer time → ⊥
not_both None time before after = before
not_both (Some answer) time before after = omega arith

was_answered : (answer : Option Answer) (time : ℕ) → CameBefore answer time → is_some answer ≡ true
was_answered None time before = absurd before
was_answered (Some answer) time before = refl

came_earlier : (answer : Option Answer) (early late : ℕ) → early ≤ late → CameNoEarlier answer late → CameNoEarlier answer early
came_earlier None early late le h = tt
came_earlier (Some answer) early late le h = omega arith

last_earlier : (early late : ℕ) → early ≤ late → (xs : List Operation) → NoneCameBefore late xs → NoneCameBefore early xs
last_earlier early late le [] h = tt
last_earlier early late le (x ∷ xs) h = (came_earlier x.answer early late le h.0, last_earlier early late le xs h.1)

pub last_among : (time : ℕ) (xs : List Operation) (x : Operation) → IsIn x xs → NoneCameBefore time xs → CameNoEarlier x.answer time
last_among time [] x h last = absurd h
last_among time (y ∷ xs) x (inl same) last = subst (λ a. CameNoEarlier a time) (ap (λ z. z.answer) (sym same)) last.0
last_among time (y ∷ xs) x (inr more) last = last_among time xs x more last.1

pub last_if_each : (time : ℕ) (xs : List Operation) → ((x : Operation) → IsIn x xs → CameNoEarlier x.answer time) → NoneCameBefore time xs
last_if_each time [] each = tt
last_if_each time (x ∷ xs) each = (each x (inl refl), last_if_each time xs (λ y h. each y (inr h)))

-- ---- what a test keeps

last_kept : (keeps : Operation → Bool) (time : ℕ) (xs : List Operation) → NoneCameBefore time xs → NoneCameBefore time (filter keeps xs)
last_kept keeps time [] h = tt
last_kept keeps time (x ∷ xs) h = by (keeps x) (last_kept keeps time xs h.1)
  where
    by : (b : Bool) → NoneCameBefore time (filter keeps xs) → NoneCameBefore time (cond b (x ∷ filter keeps xs) (filter keeps xs))
    by true rest = (h.0, rest)
    by false rest = rest

pub kept_in_time : (keeps : Operation → Bool) (xs : List Operation) → KeepsTime xs → KeepsTime (filter keeps xs)
kept_in_time keeps [] h = tt
kept_in_time keeps (x ∷ xs) h = by (keeps x) (kept_in_time keeps xs h.1)
  where
    by : (b : Bool) → KeepsTime (filter keeps xs) → KeepsTime (cond b (x ∷ filter keeps xs) (filter keeps xs))
    by true rest = ((h.0.0, last_kept keeps x.began xs h.0.1), rest)
    by false rest = rest

-- ---- linearizations

pub linear_in_time : (operations order : List Operation) → IsLinearization operations order → KeepsTime order
linear_in_time operations order l = from [] order refl
  where
    from : (front rest : List Operation) → order ≡ front ++ rest → KeepsTime rest
    from front [] e = tt
    from front (y ∷ back) e =
        (last_if_each y.began (y ∷ back) each, from (front ++ y ∷ []) back (rw append_assoc e))
      where
        each : (x : Operation) → IsIn x (y ∷ back) → CameNoEarlier x.answer y.began
        each x h = on (came_when x.answer y.began)
          where
            on : CameBefore x.answer y.began ⊎ CameNoEarlier x.answer y.began → CameNoEarlier x.answer y.began
            on (inr late) = late
            on (inl before) =
                let here : IsIn x order = rw e (among_back x front (y ∷ back) h) in
                let earlier = l.real_time front y back e x (l.only x here) before in
                absurd (in_one_part x front (y ∷ back) (subst AreDistinct e l.distinct) earlier h)

keeps_back : (front back : List Operation) → KeepsTime (front ++ back) → KeepsTime back
keeps_back [] back h = h
keeps_back (x ∷ front) back h = keeps_back front back h.1

pub in_time_linear : (operations order : List Operation) → AreDistinct order → ((x : Operation) → IsIn x order → IsIn x operations)
    → ((x : Operation) → IsIn x operations → is_some x.answer ≡ true → IsIn x order) → KeepsTime order → IsLinearization operations order
in_time_linear operations order distinct only answered keeps = record {
  distinct = distinct;
  only = only;
  answered = answered;
  real_time = real_time;
}
  where
    real_time : (front : List Operation) (y : Operation) (back : List Operation) → order ≡ front ++ y ∷ back
        → (x : Operation) → IsIn x operations → CameBefore x.answer y.began → IsIn x front
    real_time front y back e x h before =
        on (among_parts x front (y ∷ back) (subst (λ l. IsIn x l) e (answered x h (was_answered x.answer y.began before))))
      where
        on : IsIn x front ⊎ IsIn x (y ∷ back) → IsIn x front
        on (inl earlier) = earlier
        on (inr later) =
            let keeps' : KeepsTime (y ∷ back) = keeps_back front (y ∷ back) (subst KeepsTime e keeps) in
            absurd (not_both x.answer y.began before (last_among y.began (y ∷ back) x later keeps'.0))

-- ---- merges

-- effected operations
pub record InTime (xs ys : List Effected) : Type 0 where
  pub order : List Effected
  pub merge : IsMerge xs ys order
  pub keeps : KeepsTime (order_of order)

merged_last : (time : ℕ) (xs ys zs : List Effected) → IsMerge xs ys zs → NoneCameBefore time (order_of xs) → NoneCameBefore time (order_of ys)
    → NoneCameBefore time (order_of zs)
merged_last time xs ys zs none hx hy = tt
merged_last time xs ys zs (left {xs = ls} {ys = rs} {zs = ms} m) hx hy = (hx.0, merged_last time ls rs ms m hx.1 hy)
merged_last time xs ys zs (right {xs = ls} {ys = rs} {zs = ms} m) hx hy = (hy.0, merged_last time ls rs ms m hx hy.1)

-- of the first of each, the one that began earlier may stand before all others
merged_in_time : (fuel : ℕ) (xs ys : List Effected) → length xs + length ys ≤ fuel → KeepsTime (order_of xs) → KeepsTime (order_of ys)
    → InTime xs ys
merged_in_time fuel [] ys few hx hy = record { order = ys; merge = all_right ys; keeps = hy }
merged_in_time fuel (x ∷ xs) [] few hx hy = record { order = x ∷ xs; merge = all_left (x ∷ xs); keeps = hx }
merged_in_time zero (x ∷ xs) (y ∷ ys) few hx hy = absurd (omega arith)
merged_in_time (suc fuel) (x ∷ xs) (y ∷ ys) few hx hy =
    by (cases_lt y.operation.began x.operation.began) (merged_in_time fuel xs (y ∷ ys) (omega arith) hx.1 hy)
    (merged_in_time fuel (x ∷ xs) ys (omega arith) hx hy.1)
  where
    by : (y.operation.began < x.operation.began) ⊎ (x.operation.began ≤ y.operation.began) → InTime xs (y ∷ ys) → InTime (x ∷ xs) ys
        → InTime (x ∷ xs) (y ∷ ys)
    by (inr le) after_x after_y =
        let others = last_earlier x.operation.began y.operation.began le (order_of (y ∷ ys)) hy.0 in record {
          order = x ∷ after_x.order;
          merge = left after_x.merge;
          keeps = ((hx.0.0, merged_last x.operation.began xs (y ∷ ys) after_x.order after_x.merge hx.0.1 others), after_x.keeps);
        }
    by (inl lt) after_x after_y =
        let others = last_earlier y.operation.began x.operation.began (omega arith) (order_of (x ∷ xs)) hx.0 in record {
          order = y ∷ after_y.order;
          merge = right after_y.merge;
          keeps = ((hy.0.0, merged_last y.operation.began (x ∷ xs) ys after_y.order after_y.merge others hy.0.1), after_y.keeps);
        }

pub merge_in_time : (xs ys : List Effected) → KeepsTime (order_of xs) → KeepsTime (order_of ys) → InTime xs ys
merge_in_time xs ys hx hy = merged_in_time (length xs + length ys) xs ys (omega arith) hx hy
