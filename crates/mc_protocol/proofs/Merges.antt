-- Merges: of longer lists, of the results of a function, and the other way round.
use Rattle.std.proofs.Common.{◌≡◌, ◌+◌, ◌∙◌, ◌⊎◌, inl, inr, List, [], ◌∷◌, ◌++◌, map, refl, ap}
use Rattle.mc_protocol.specs.Merge.{IsMerge, none, left, right}
use Rattle.mc_protocol.proofs.FirstItems.{head_is, rest_is}

-- ---- longer lists

-- an item after the left list
pub merge_left_end : {A : Type 0} {xs ys zs : List A} (x : A) → IsMerge xs ys zs → IsMerge (xs ++ x ∷ []) ys (zs ++ x ∷ [])
merge_left_end x none = left none
merge_left_end x (left m) = left (merge_left_end x m)
merge_left_end x (right m) = right (merge_left_end x m)

-- an item after the right list
pub merge_right_end : {A : Type 0} {xs ys zs : List A} (y : A) → IsMerge xs ys zs → IsMerge xs (ys ++ y ∷ []) (zs ++ y ∷ [])
merge_right_end y none = right none
merge_right_end y (left m) = left (merge_right_end y m)
merge_right_end y (right m) = right (merge_right_end y m)

pub merge_right_alone : {A : Type 0} (ys : List A) → IsMerge [] ys ys
merge_right_alone [] = none
merge_right_alone (y ∷ ys) = right (merge_right_alone ys)

pub merge_append : {A : Type 0} {xs ys zs us vs ws : List A} → IsMerge xs ys zs → IsMerge us vs ws → IsMerge (xs ++ us) (ys ++ vs) (zs ++ ws)
merge_append none more = more
merge_append (left m) more = left (merge_append m more)
merge_append (right m) more = right (merge_append m more)

pub merge_map : {A B : Type 0} (f : A → B) {xs ys zs : List A} → IsMerge xs ys zs → IsMerge (map f xs) (map f ys) (map f zs)
merge_map f none = none
merge_map f (left m) = left (merge_map f m)
merge_map f (right m) = right (merge_map f m)

-- a merge of what the function makes of two lists is what it makes of a merge of them
pub merge_unmap : {A B : Type 0} (f : A → B) (xs ys : List A) → {us vs ws : List B} → IsMerge us vs ws → map f xs ≡ us → map f ys ≡ vs
    → (zs : List A) × IsMerge xs ys zs × (map f zs ≡ ws)
merge_unmap f [] [] none e g = ([], none, refl)
merge_unmap f [] (y ∷ ys) none e g = absurd (cc)
merge_unmap f (x ∷ xs) ys none e g = absurd (cc)
merge_unmap f [] ys (left m) e g = absurd (cc)
merge_unmap f (x ∷ xs) ys (left {x = u} {xs = us} m) e g =
    let rest = merge_unmap f xs ys m (rest_is (f x) u (map f xs) us e) g in
    (x ∷ rest.0, left rest.1, ap (λ z. z ∷ map f rest.0) (head_is (f x) u (map f xs) us e) ∙ ap (λ l. u ∷ l) rest.2)
merge_unmap f xs [] (right m) e g = absurd (cc)
merge_unmap f xs (y ∷ ys) (right {y = v} {ys = vs} m) e g =
    let rest = merge_unmap f xs ys m e (rest_is (f y) v (map f ys) vs g) in
    (y ∷ rest.0, right rest.1, ap (λ z. z ∷ map f rest.0) (head_is (f y) v (map f ys) vs g) ∙ ap (λ l. v ∷ l) rest.2)

-- ---- parts of a merge

-- a merge is empty, or begins with the first item of one of the lists
abbrev pub MergeBegins : {A : Type 0} → List A → List A → List A → Type 0
MergeBegins xs ys [] = (xs ≡ []) × (ys ≡ [])
MergeBegins {A} xs ys (z ∷ zs) =
    ((others : List A) × (xs ≡ z ∷ others) × IsMerge others ys zs)
    ⊎ ((others : List A) × (ys ≡ z ∷ others) × IsMerge xs others zs)

pub merge_first : {A : Type 0} {xs ys zs : List A} → IsMerge xs ys zs → MergeBegins xs ys zs
merge_first none = (refl, refl)
merge_first (left m) = inl (_, refl, m)
merge_first (right m) = inr (_, refl, m)
