-- The merges of two lists.
use Rattle.std.specs.Prelude.{List, [], ◌∷◌}

-- each item of either list, in the order of its list
pub data IsMerge {A : Type 0} : List A → List A → List A → Type 0 where
  none : IsMerge [] [] []
  left : {x : A} {xs ys zs : List A} → IsMerge xs ys zs → IsMerge (x ∷ xs) ys (x ∷ zs)
  right : {y : A} {xs ys zs : List A} → IsMerge xs ys zs → IsMerge xs (y ∷ ys) (y ∷ zs)
