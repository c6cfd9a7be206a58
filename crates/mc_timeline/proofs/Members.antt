-- What stands in a list, in a part of it and in what a test keeps of it.
use Rattle.std.proofs.Common.{◌≡◌, ◌⊎◌, inl, inr, Bool, true, false, cond, List, [], ◌∷◌, ◌++◌, filter, map, refl, ap, ◌∙◌, subst}
use Rattle.mc_history.specs.Distinct.{IsAbsent, AreDistinct}
use Rattle.mc_timeline.specs.Members.{IsIn}

-- ---- what is absent is not in

pub absent : {X : Type 0} (x : X) (xs : List X) → IsAbsent x xs → IsIn x xs → ⊥
absent x [] a h = h
absent x (y ∷ xs) a (inl same) = a.0 same
absent x (y ∷ xs) a (inr more) = absent x xs a.1 more

pub is_absent : {X : Type 0} (x : X) (xs : List X) → (IsIn x xs → ⊥) → IsAbsent x xs
is_absent x [] never = tt
is_absent x (y ∷ xs) never = ((λ same. never (inl same)), is_absent x xs (λ h. never (inr h)))

-- ---- two lists, one after the other

pub among_back : {X : Type 0} (x : X) (front back : List X) → IsIn x back → IsIn x (front ++ back)
among_back x [] back h = h
among_back x (y ∷ front) back h = inr (among_back x front back h)

pub among_parts : {X : Type 0} (x : X) (front back : List X) → IsIn x (front ++ back) → IsIn x front ⊎ IsIn x back
among_parts x [] back h = inr h
among_parts x (y ∷ front) back (inl same) = inl (inl same)
among_parts x (y ∷ front) back (inr more) = on (among_parts x front back more)
  where
    on : IsIn x front ⊎ IsIn x back → IsIn x (y ∷ front) ⊎ IsIn x back
    on (inl h) = inl (inr h)
    on (inr h) = inr h

-- nothing stands in both parts
pub in_one_part : {X : Type 0} (x : X) (front back : List X) → AreDistinct (front ++ back) → IsIn x front → IsIn x back → ⊥
in_one_part x [] back d here there = here
in_one_part x (y ∷ front) back d (inl same) there =
    absent y (front ++ back) d.0 (subst (λ z. IsIn z (front ++ back)) same (among_back x front back there))
in_one_part x (y ∷ front) back d (inr more) there = in_one_part x front back d.1 more there

-- ---- what a test keeps

pub among_kept : {X : Type 0} (keeps : X → Bool) (x : X) (xs : List X) → IsIn x (filter keeps xs) → (keeps x ≡ true) × IsIn x xs
among_kept keeps x [] h = absurd h
among_kept keeps x (y ∷ xs) h = by (keeps y) refl h (among_kept keeps x xs)
  where
    by : (b : Bool) → keeps y ≡ b → IsIn x (cond b (y ∷ filter keeps xs) (filter keeps xs))
        → (IsIn x (filter keeps xs) → (keeps x ≡ true) × IsIn x xs) → (keeps x ≡ true) × IsIn x (y ∷ xs)
    by true e (inl same) rest = (ap keeps same ∙ e, inl same)
    by true e (inr more) rest = ((rest more).0, inr (rest more).1)
    by false e more rest = ((rest more).0, inr (rest more).1)

pub kept_among : {X : Type 0} (keeps : X → Bool) (x : X) (xs : List X) → keeps x ≡ true → IsIn x xs → IsIn x (filter keeps xs)
kept_among keeps x [] e h = h
kept_among keeps x (y ∷ xs) e h = by (keeps y) refl h (kept_among keeps x xs e)
  where
    by : (b : Bool) → keeps y ≡ b → IsIn x (y ∷ xs) → (IsIn x xs → IsIn x (filter keeps xs))
        → IsIn x (cond b (y ∷ filter keeps xs) (filter keeps xs))
    by true is (inl same) rest = inl same
    by true is (inr more) rest = inr (rest more)
    by false is (inl same) rest = absurd (cc)
    by false is (inr more) rest = rest more

pub kept_distinct : {X : Type 0} (keeps : X → Bool) (xs : List X) → AreDistinct xs → AreDistinct (filter keeps xs)
kept_distinct keeps [] d = d
kept_distinct keeps (y ∷ xs) d = by (keeps y) (kept_distinct keeps xs d.1)
  where
    by : (b : Bool) → AreDistinct (filter keeps xs) → AreDistinct (cond b (y ∷ filter keeps xs) (filter keeps xs))
    by true rest = (is_absent y (filter keeps xs) (λ h. absent y xs d.0 (among_kept keeps y xs h).1), rest)
    by false rest = rest

-- ---- what a function makes of each

pub mapped_among : {X Y : Type 0} (f : X → Y) (y : Y) (xs : List X) → IsIn y (map f xs) → (x : X) × (y ≡ f x) × IsIn x xs
mapped_among f y [] h = absurd h
mapped_among f y (x ∷ xs) (inl same) = (x, same, inl refl)
mapped_among f y (x ∷ xs) (inr more) = let r = mapped_among f y xs more in (r.0, r.1, inr r.2)

pub mapped_kept : {X Y : Type 0} (f : X → Y) (keeps : Y → Bool) (xs : List X) → map f (filter (λ x. keeps (f x)) xs) ≡ filter keeps (map f xs)
mapped_kept f keeps [] = refl
mapped_kept f keeps (x ∷ xs) = by (keeps (f x)) (mapped_kept f keeps xs)
  where
    by : (b : Bool) → map f (filter (λ x. keeps (f x)) xs) ≡ filter keeps (map f xs)
        → map f (cond b (x ∷ filter (λ x. keeps (f x)) xs) (filter (λ x. keeps (f x)) xs)) ≡ cond b (f x ∷ filter keeps (map f xs)) (filter keeps (map f xs))
    by true rest = ap (λ l. f x ∷ l) rest
    by false rest = rest
