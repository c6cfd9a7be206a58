-- Lists of words, marks and entries.
use Rattle.std.proofs.Common.{◌≡◌, ℕ, ◌-◌, ◌≤◌, ◌==◌, Bool, true, false, not, ◌&&◌, ◌||◌, List, [], ◌∷◌, ◌++◌, length, map}
use Rattle.std.proofs.Common.{get_or, take, drop, refl, sym, ap, subst, arith}
use Rattle.std.proofs.{lemmas.Bool.Decides.nat_tests, lemmas.Bool.Decides.same_from_decides, lemmas.List.take_all, lemmas.Slice.Eq.bytes_eq-Decides}
use Rattle.std.specs.{List.list_any, List.list_all, Str.bytes_eq}

pub any_over_map : {X Y : Type 0} (p : X → Bool) (h : Y → X) (ys : List Y) → list_any p (map h ys) ≡ list_any (λ y. p (h y)) ys
any_over_map p h [] = refl
any_over_map p h (y ∷ ys) = ap (λ b. p (h y) || b) (any_over_map p h ys)

-- ---- tests

pub three : (a b c : Bool) → (a && b && c) ≡ true → (a ≡ true) × (b ≡ true) × (c ≡ true)
three a b c h = grind arith

pub from-three : (a b c : Bool) → a ≡ true → b ≡ true → c ≡ true → (a && b && c) ≡ true
from-three a b c p q r = grind arith

pub some-first : {X : Type 0} (x : X) (xs : List X) → not (length (x ∷ xs) == 0) ≡ true
some-first x xs = grind (arith, nat_tests)

-- ---- values of which no two are twins

or-none : (a : Bool) → (a || false) ≡ a
or-none a = grind arith

or-assoc : (a b c : Bool) → (a || (b || c)) ≡ ((a || b) || c)
or-assoc a b c = grind arith

pub any-push : {X : Type 0} (p : X → Bool) (xs : List X) (x : X) → list_any p (xs ++ x ∷ []) ≡ (list_any p xs || p x)
any-push p [] x = or-none (p x)
any-push p (y ∷ xs) x = rw (any-push p xs x) (or-assoc (p y) (list_any p xs) (p x))

-- none of these is a twin of one before them
abbrev pub none_twins : {X : Type 0} → (X → X → Bool) → List X → List X → Bool
none_twins twins done xs = list_all (λ x. not (list_any (twins x) done)) xs

pub regroup : (a b c d : Bool) → (not (a || b) && (c && not d)) ≡ ((not a && c) && not (b || d))
regroup a b c d = grind arith

-- the same beside one more, where it is seen from both sides who is a twin
pub twins-push : {X : Type 0} (twins back : X → X → Bool) → ((x y : X) → twins x y ≡ back y x) → (done : List X) (m : X) (xs : List X)
    → none_twins twins (done ++ m ∷ []) xs ≡ (none_twins twins done xs && not (list_any (back m) xs))
twins-push twins back same done m [] = refl
twins-push twins back same done m (x ∷ xs) =
    rw (any-push (twins x) done m, same x m, twins-push twins back same done m xs)
    (regroup (list_any (twins x) done) (back m x) (none_twins twins done xs) (list_any (back m) xs))

pub none-before : {X : Type 0} (twins : X → X → Bool) (xs : List X) → none_twins twins [] xs ≡ true
none-before twins [] = refl
none-before twins (x ∷ xs) = none-before twins xs

-- ---- words

-- a word with this first byte is that byte and the others, as a pattern takes them
pub first-taken : (P : List ℕ → Type 0) (word : List ℕ) (byte : ℕ) → 1 ≤ length word → get_or word 0 0 ≡ byte
    → P (byte ∷ take (length word - 1) (drop 1 word)) → P word
first-taken P [] byte some is h = absurd (omega arith)
first-taken P (first ∷ others) byte some is h =
    let all = take_all (length (first ∷ others) - 1) others (omega arith) in
    subst P (ap (λ b. b ∷ others) (sym is)) (subst P (ap (λ bytes. byte ∷ bytes) all) h)

pub bytes-same : (xs ys : List ℕ) → bytes_eq xs ys ≡ true → xs ≡ ys
bytes-same xs ys = (bytes_eq-Decides xs ys).0

pub bytes-swap : (xs ys : List ℕ) → bytes_eq xs ys ≡ bytes_eq ys xs
bytes-swap xs ys =
    same_from_decides (bytes_eq xs ys) (bytes_eq ys xs) (bytes_eq-Decides xs ys)
    (λ h. sym (bytes-same ys xs h), λ e. (bytes_eq-Decides ys xs).1 (sym e))
