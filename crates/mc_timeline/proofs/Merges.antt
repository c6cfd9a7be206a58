-- Merges of two lists: each item of either list, in the order of its list.
use Rattle.std.proofs.Common.{◌⊎◌, inl, inr, List, [], ◌∷◌, ◌++◌, map, refl}
use Rattle.mc_history.specs.Distinct.{AreDistinct}
use Rattle.mc_timeline.specs.Members.{IsIn}
use Rattle.mc_timeline.proofs.Members.{absent, is_absent}

pub data IsMerge {A : Type 0} : List A → List A → List A → Type 0 where
  none : IsMerge [] [] []
  left : {x : A} {xs ys zs : List A} → IsMerge xs ys zs → IsMerge (x ∷ xs) ys (x ∷ zs)
  right : {y : A} {xs ys zs : List A} → IsMerge xs ys zs → IsMerge xs (y ∷ ys) (y ∷ zs)

pub all_left : {A : Type 0} (xs : List A) → IsMerge xs [] xs
all_left [] = none
all_left (x ∷ xs) = left (all_left xs)

pub all_right : {A : Type 0} (ys : List A) → IsMerge [] ys ys
all_right [] = none
all_right (y ∷ ys) = right (all_right ys)

pub merged_among : {A : Type 0} (a : A) (xs ys zs : List A) → IsMerge xs ys zs → IsIn a zs → IsIn a xs ⊎ IsIn a ys
merged_among a xs ys zs none h = absurd h
merged_among a xs ys zs (left {xs = ls} {ys = rs} {zs = ms} m) (inl same) = inl (inl same)
merged_among a xs ys zs (left {x = x} {xs = ls} {ys = rs} {zs = ms} m) (inr more) = on (merged_among a ls rs ms m more)
  where
    on : IsIn a ls ⊎ IsIn a rs → IsIn a (x ∷ ls) ⊎ IsIn a rs
    on (inl h) = inl (inr h)
    on (inr h) = inr h
merged_among a xs ys zs (right {xs = ls} {ys = rs} {zs = ms} m) (inl same) = inr (inl same)
merged_among a xs ys zs (right {y = y} {xs = ls} {ys = rs} {zs = ms} m) (inr more) = on (merged_among a ls rs ms m more)
  where
    on : IsIn a ls ⊎ IsIn a rs → IsIn a ls ⊎ IsIn a (y ∷ rs)
    on (inl h) = inl h
    on (inr h) = inr (inr h)

pub among_left : {A : Type 0} (a : A) (xs ys zs : List A) → IsMerge xs ys zs → IsIn a xs → IsIn a zs
among_left a xs ys zs none h = h
among_left a xs ys zs (left {xs = ls} {ys = rs} {zs = ms} m) (inl same) = inl same
among_left a xs ys zs (left {xs = ls} {ys = rs} {zs = ms} m) (inr more) = inr (among_left a ls rs ms m more)
among_left a xs ys zs (right {xs = ls} {ys = rs} {zs = ms} m) h = inr (among_left a ls rs ms m h)

pub among_right : {A : Type 0} (a : A) (xs ys zs : List A) → IsMerge xs ys zs → IsIn a ys → IsIn a zs
among_right a xs ys zs none h = h
among_right a xs ys zs (left {xs = ls} {ys = rs} {zs = ms} m) h = inr (among_right a ls rs ms m h)
among_right a xs ys zs (right {xs = ls} {ys = rs} {zs = ms} m) (inl same) = inl same
among_right a xs ys zs (right {xs = ls} {ys = rs} {zs = ms} m) (inr more) = inr (among_right a ls rs ms m more)

-- nothing that stands in both lists
pub merged_distinct : {A : Type 0} (xs ys zs : List A) → IsMerge xs ys zs → AreDistinct xs → AreDistinct ys
    → ((a : A) → IsIn a xs → IsIn a ys → ⊥) → AreDistinct zs
merged_distinct xs ys zs none dx dy apart = dx
merged_distinct xs ys zs (left {x = x} {xs = ls} {ys = rs} {zs = ms} m) dx dy apart =
    (is_absent x ms (λ h. on (merged_among x ls rs ms m h)), merged_distinct ls rs ms m dx.1 dy (λ a l r. apart a (inr l) r))
  where
    on : IsIn x ls ⊎ IsIn x rs → ⊥
    on (inl h) = absent x ls dx.0 h
    on (inr h) = apart x (inl refl) h
merged_distinct xs ys zs (right {y = y} {xs = ls} {ys = rs} {zs = ms} m) dx dy apart =
    (is_absent y ms (λ h. on (merged_among y ls rs ms m h)), merged_distinct ls rs ms m dx dy.1 (λ a l r. apart a l (inr r)))
  where
    on : IsIn y ls ⊎ IsIn y rs → ⊥
    on (inl h) = apart y h (inl refl)
    on (inr h) = absent y rs dy.0 h

pub mapped_merge : {A B : Type 0} (f : A → B) (xs ys zs : List A) → IsMerge xs ys zs → IsMerge (map f xs) (map f ys) (map f zs)
mapped_merge f xs ys zs none = none
mapped_merge f xs ys zs (left {xs = ls} {ys = rs} {zs = ms} m) = left (mapped_merge f ls rs ms m)
mapped_merge f xs ys zs (right {xs = ls} {ys = rs} {zs = ms} m) = right (mapped_merge f ls rs ms m)

pub more_left : {A : Type 0} (more xs ys zs : List A) → IsMerge xs ys zs → IsMerge (more ++ xs) ys (more ++ zs)
more_left [] xs ys zs m = m
more_left (a ∷ more) xs ys zs m = left (more_left more xs ys zs m)

pub more_right : {A : Type 0} (more xs ys zs : List A) → IsMerge xs ys zs → IsMerge xs (more ++ ys) (more ++ zs)
more_right [] xs ys zs m = m
more_right (a ∷ more) xs ys zs m = right (more_right more xs ys zs m)

pub appended : {A : Type 0} (xs ys : List A) → IsMerge xs ys (xs ++ ys)
appended [] ys = all_right ys
appended (x ∷ xs) ys = left (appended xs ys)
