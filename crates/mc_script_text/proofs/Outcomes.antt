-- What a reading that gave a value went through.
use Rattle.std.proofs.Common.{◌≡◌, Bool, true, false, cond, Option, Some, None, List, ◌∷◌, refl}
use Rattle.mc_script.specs.Chains.{◌>>=◌}
use Rattle.mc_script_text.specs.Steps.{in_front}

-- both steps gave one
pub then-some : {A B : Type 0} (x : Option A) (f : A → Option B) (y : B) → (x >>= f) ≡ Some y → (a : A) × (x ≡ Some a) × (f a ≡ Some y)
then-some (Some a) f y e = (a, refl, e)
then-some None f y e = absurd (cc)

pub cond-some : {A : Type 0} (b : Bool) (x y : Option A) (a : A) (P : Type 0) → cond b x y ≡ Some a → (x ≡ Some a → P) → (y ≡ Some a → P) → P
cond-some true x y a P e f g = f e
cond-some false x y a P e f g = g e

pub cond-cases : {A : Type 0} (b : Bool) (x y : Option A) (a : A) (P : Type 0) → cond b x y ≡ Some a → (b ≡ true → x ≡ Some a → P)
    → (b ≡ false → y ≡ Some a → P) → P
cond-cases true x y a P e f g = f refl e
cond-cases false x y a P e f g = g refl e

pub some-same : {A : Type 0} (x y : A) → Some x ≡ Some y → x ≡ y
some-same x y e = cc

pub only-then : {A : Type 0} (b : Bool) (x : Option A) (a : A) → cond b x None ≡ Some a → (b ≡ true) × (x ≡ Some a)
only-then true x a e = (refl, e)
only-then false x a e = absurd (cc)

pub only-else : {A : Type 0} (b : Bool) (x : Option A) (a : A) → cond b None x ≡ Some a → (b ≡ false) × (x ≡ Some a)
only-else true x a e = absurd (cc)
only-else false x a e = (refl, e)

-- a value before others, and the others
pub front-parts : {A : Type 0} (x : Option A) (xs : Option (List A)) (ys : List A) → in_front x xs ≡ Some ys
    → (z : A) × (zs : List A) × (x ≡ Some z) × (xs ≡ Some zs) × (z ∷ zs ≡ ys)
front-parts (Some x) (Some xs) ys h = (x, xs, refl, refl, some-same (x ∷ xs) ys h)
front-parts (Some x) None ys h = absurd (cc)
front-parts None xs ys h = absurd (cc)
