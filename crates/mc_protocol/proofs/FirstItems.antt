-- The first items of lists.
use Rattle.std.proofs.Common.{◌≡◌, ◌-◌, ◌≤◌, List, [], ◌∷◌, length, map, get_or, take, drop, ap, arith}
use Rattle.std.proofs.lemmas.List.{take_all}
use Rattle.mc_protocol.specs.Lines.{Word}

-- the first items of equal lists
pub head_is : {A : Type 0} (x y : A) (xs ys : List A) → x ∷ xs ≡ y ∷ ys → x ≡ y
head_is x y xs ys e = cc

pub rest_is : {A : Type 0} (x y : A) (xs ys : List A) → x ∷ xs ≡ y ∷ ys → xs ≡ ys
rest_is x y xs ys e = cc

-- a slice is its first word and the others
pub words_split : {X : Type 0} (f : X → Word) (xs : List X) (d : X) (word : Word) → 1 ≤ length xs → f (get_or xs 0 d) ≡ word
    → map f xs ≡ word ∷ map f (take (length xs - 1) (drop 1 xs))
words_split f [] d word some e = absurd (omega (arith, some))
words_split f (x ∷ xs) d word some e = rw (take_all (length (x ∷ xs) - 1) xs (omega arith)) (ap (λ w. w ∷ map f xs) e)
