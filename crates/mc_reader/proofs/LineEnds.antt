-- Where lines end.
use Rattle.std.proofs.Common.{◌≡◌, ℕ, ◌≤◌, ◌==◌, Bool, true, false, ◌||◌, List, [], ◌∷◌, ◌++◌, length, refl, sym, ap, ◌∙◌, subst, arith}
use Rattle.mc_reader.specs.Lines.{LF, has_end}

-- neither of two tests passes where one or the other would
pub neither : (a b : Bool) → (a || b) ≡ false → (a ≡ false) × (b ≡ false)
neither true b h = absurd (cc)
neither false b h = (refl, h)

pub none_ahead : (byte : ℕ) (bytes : List ℕ) → has_end (byte ∷ bytes) ≡ false → has_end bytes ≡ false
none_ahead byte bytes h = (neither (byte == LF) (has_end bytes) h).1

-- an LF is none of the bytes of a line
pub lf_is_end : (bytes : List ℕ) → has_end (LF ∷ bytes) ≡ false → ⊥
lf_is_end bytes h = absurd (cc)

-- the first byte of bytes with no LF is none
pub lf_first : (byte : ℕ) (bytes : List ℕ) → has_end (byte ∷ bytes) ≡ false → LF ≡ byte → ⊥
lf_first byte bytes h e = lf_is_end bytes (subst (λ b. has_end (b ∷ bytes) ≡ false) (sym e) h)

regroup : (a b c : Bool) → (a || (b || c)) ≡ ((a || b) || c)
regroup true b c = refl
regroup false b c = refl

-- two parts have an end where one has
pub has_end-append : (a b : List ℕ) → has_end (a ++ b) ≡ (has_end a || has_end b)
has_end-append [] b = refl
has_end-append (x ∷ a) b = ap (λ t. (x == LF) || t) (has_end-append a b) ∙ regroup (x == LF) (has_end a) (has_end b)

-- the first LF of the same bytes stands at one place
pub one_first_end : (a b x y : List ℕ) → has_end a ≡ false → has_end b ≡ false → a ++ LF ∷ x ≡ b ++ LF ∷ y → (a ≡ b) × (x ≡ y)
one_first_end [] [] x y p q h = (refl, cc)
one_first_end [] (c ∷ b) x y p q h = absurd (lf_first c b q (let e : LF ≡ c = cc in e))
one_first_end (c ∷ a) [] x y p q h = absurd (lf_first c a p (let e : LF ≡ c = cc in e))
one_first_end (c ∷ a) (d ∷ b) x y p q h =
    let same : c ≡ d = cc in
    let rest : a ++ LF ∷ x ≡ b ++ LF ∷ y = cc in
    let p : has_end a ≡ false = none_ahead c a p in
    let q : has_end b ≡ false = none_ahead d b q in
    let both = one_first_end a b x y p q rest in
    (ap (λ t. c ∷ t) both.0 ∙ ap (λ t. t ∷ b) same, both.1)

-- bytes with no LF don't go on past the first LF of the same bytes
pub ends_before : (a b x y : List ℕ) → has_end a ≡ false → a ++ x ≡ b ++ LF ∷ y → length a ≤ length b
ends_before [] b x y p h = omega arith
ends_before (c ∷ a) [] x y p h = absurd (lf_first c a p (let e : LF ≡ c = cc in e))
ends_before (c ∷ a) (d ∷ b) x y p h = let less = ends_before a b x y (none_ahead c a p) (let e : a ++ x ≡ b ++ LF ∷ y = cc in e) in omega
    arith
