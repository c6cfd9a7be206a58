-- What a look-up in a list finds.
use Rattle.std.proofs.Common.{◌≡◌, Bool, true, false, cond, Some, List, [], ◌∷◌, refl}
use Rattle.std.specs.List.{find}

find-here : {X : Type 0} (passes : X → Bool) (b : Bool) (x y : X) (xs : List X) → passes x ≡ b → cond b (Some x) (find passes xs) ≡ Some y
    → (find passes xs ≡ Some y → passes y ≡ true) → passes y ≡ true
find-here passes true x y xs p h rest = let e : x ≡ y = cc in rw (← e) p
find-here passes false x y xs p h rest = rest h

-- what is found passes
pub find-passes : {X : Type 0} (passes : X → Bool) (xs : List X) (y : X) → find passes xs ≡ Some y → passes y ≡ true
find-passes passes [] y h = absurd (cc)
find-passes passes (x ∷ xs) y h = find-here passes (passes x) x y xs refl h (find-passes passes xs y)
