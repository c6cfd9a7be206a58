-- The flags that marks say, as bits of masks.
use Rattle.std.proofs.Common.{◌≡◌, ℕ, ◌<◌, ◌==◌, ◌^◌, Bool, true, false, cond, ◌⊎◌, inl, inr, ⊎_elim, Option}
use Rattle.std.proofs.Common.{Some, None, List, [], ◌∷◌, length, refl, sym, ap, ◌∙◌, arith, bit_and}
use Rattle.std.proofs.lemmas.Bool.{and_parts, and_from, or_parts, or_from, not-true, eqb-true, eqb-false, eq-eqb, false_from_ne_true, both_ways, cases_Bool}
use Rattle.std.proofs.lemmas.Nat.Bits.{bit_at_and, bit_at_or, bit_at-pow_other, bit_at-zero, same_from_bits}
use Rattle.std.proofs.{lemmas.Nat.or_lt, lemmas.Nat.pow_below, lemmas.List.Quantifiers.position-Some}
use Rattle.std.specs.{Int.bit_at, List.list_any, List.fold, Str.bytes_eq}
use Rattle.mc_script_text.specs.Marks.{SpellsMark, sign_byte, is_need, are_twins, have_no_twins, says, with_flag, mask_of}
use Rattle.mc_script_text.specs.{Values.Word, Values.Words, Values.Mark, Values.Sign, Reading.sign_of}
use Rattle.mc_script_text.specs.Values.mark
use Rattle.mc_script_text.specs.Values.sign
use Rattle.mc_protocol.specs.{Legal.same, Spelling.SpellEach}
use Rattle.mc_script.specs.Script.{Names}
use Rattle.mc_script_text.proofs.Outcomes.{some-same}

-- the mask with the flags of which the marks say this
abbrev pub gathered : Sign → ℕ → List Mark → ℕ
gathered s mask marks = fold (λ mask m. with_flag mask (says s m)) mask marks

-- ---- below the number of flags

with-below : (b : Bool) (w mask f : ℕ) → mask < 2 ^ w → f < w → with_flag mask (cond b (Some f) None) < 2 ^ w
with-below true w mask f h lt = or_lt w mask (2 ^ f) h (pow_below f w lt)
with-below false w mask f h lt = h

one-below : (names : Names) (word : Word) (m : Mark) (s : Sign) (mask : ℕ) → SpellsMark names word m → mask < 2 ^ length names.flags
    → with_flag mask (says s m) < 2 ^ length names.flags
one-below names word (mark.Flag t f) s mask (name, e, i) h =
    with-below (sign_byte s == sign_byte t) (length names.flags) mask f h (position-Some (λ n. bytes_eq n name) names.flags f [] i).0
one-below names word m s mask e h = h

pub mask-below : (names : Names) (words : Words) (marks : List Mark) (s : Sign) (mask : ℕ) → SpellEach (SpellsMark names) words marks
    → mask < 2 ^ length names.flags → gathered s mask marks < 2 ^ length names.flags
mask-below names [] [] s mask e h = h
mask-below names (w ∷ ws) (m ∷ marks) s mask e h = mask-below names ws marks s (with_flag mask (says s m)) e.1 (one-below names w m s mask e.0 h)
mask-below names ws marks s mask e h = absurd e

-- ---- bit by bit

abbrev pub is_flag : ℕ → Option ℕ → Bool
is_flag f (Some g) = f == g
is_flag f None = false

-- the mark says this of this flag
abbrev pub says_flag : Sign → ℕ → Mark → Bool
says_flag s f m = is_flag f (says s m)

one-kept : (o : Option ℕ) (mask i : ℕ) → is_flag i o ≡ false → bit_at (with_flag mask o) i ≡ bit_at mask i
one-kept None mask i h = refl
one-kept (Some g) mask i h =
    let zero = bit_at-pow_other g i (eqb-false i g h) in
    bit_at_or mask (2 ^ g) i ∙ omega (arith, zero)

-- a bit is as before, where no mark says it
pub bit-kept : (s : Sign) (i mask : ℕ) (marks : List Mark) → list_any (says_flag s i) marks ≡ false → bit_at (gathered s mask marks) i ≡ bit_at mask i
bit-kept s i mask [] h = refl
bit-kept s i mask (m ∷ marks) h =
    let p = or_parts (says_flag s i m) (list_any (says_flag s i) marks) h in
    bit-kept s i (with_flag mask (says s m)) marks p.1 ∙ one-kept (says s m) mask i p.0

-- ---- apart

sign-of : (s : Sign) → sign_of (sign_byte s) ≡ Some s
sign-of sign.RequireSet = refl
sign-of s = refl

pub sign-same : (s t : Sign) → (sign_byte s == sign_byte t) ≡ true → s ≡ t
sign-same s t h = some-same s t (sym (sign-of s) ∙ ap sign_of (eqb-true (sign_byte s) (sign_byte t) h) ∙ sign-of t)

flag-parts : (b : Bool) (i f : ℕ) → is_flag i (cond b (Some f) None) ≡ true → (b ≡ true) × (i ≡ f)
flag-parts true i f h = (refl, eqb-true i f h)
flag-parts false i f h = absurd (cc)

-- what a mark is that says this
pub said-parts : (s : Sign) (i : ℕ) (m : Mark) → says_flag s i m ≡ true → m ≡ mark.Flag s i
said-parts s i (mark.Flag t f) h =
    let p = flag-parts (sign_byte s == sign_byte t) i f h in
    let e = sign-same s t p.0 in
    let d = p.1 in
    rw (e, d) refl
said-parts s i m h = absurd (cc)

number-itself : (n : ℕ) → (n == n) ≡ true
number-itself n = eq-eqb n n refl

flag-twins : (s t : Sign) (i : ℕ) → same (is_need s) (is_need t) ≡ true → are_twins (mark.Flag s i) (mark.Flag t i) ≡ true
flag-twins s t i h = and_from (i == i) (same (is_need s) (is_need t)) (number-itself i) h

said-twins : (s t : Sign) (i : ℕ) (m x : Mark) → same (is_need s) (is_need t) ≡ true → says_flag s i m ≡ true → says_flag t i x ≡ true → are_twins m x ≡ true
said-twins s t i m x k h g = rw (said-parts s i m h, said-parts t i x g) (flag-twins s t i k)

-- no other mark says of the flag what is a twin
none-said : (s t : Sign) (i : ℕ) (m : Mark) (marks : List Mark) → same (is_need s) (is_need t) ≡ true → says_flag s i m ≡ true
    → list_any (are_twins m) marks ≡ false → list_any (says_flag t i) marks ≡ false
none-said s t i m [] k h n = refl
none-said s t i m (x ∷ marks) k h n =
    let p = or_parts (are_twins m x) (list_any (are_twins m) marks) n in
    or_from (says_flag t i x) (list_any (says_flag t i) marks)
    (false_from_ne_true (says_flag t i x) (λ g. both_ways (are_twins m x) p.0 (said-twins s t i m x k h g)))
    (none-said s t i m marks k h p.1)

-- a mark says one thing
not-both : (s t : Sign) (i : ℕ) (m : Mark) → (sign_byte s == sign_byte t) ≡ false → says_flag s i m ≡ true → says_flag t i m ≡ false
not-both s t i m d h =
    false_from_ne_true (says_flag t i m) (λ g.
    let e : mark.Flag s i ≡ mark.Flag t i = sym (said-parts s i m h) ∙ said-parts t i m g in
    let same-sign : s ≡ t = cc in
    both_ways (sign_byte s == sign_byte t) d (rw same-sign (number-itself (sign_byte t))))

-- of a flag the marks say one of two twins at most
said-apart : (s t : Sign) (i : ℕ) (marks : List Mark) → same (is_need s) (is_need t) ≡ true → same (is_need t) (is_need s) ≡ true
    → (sign_byte s == sign_byte t) ≡ false → (sign_byte t == sign_byte s) ≡ false → have_no_twins marks ≡ true
    → (list_any (says_flag s i) marks ≡ false) ⊎ (list_any (says_flag t i) marks ≡ false)
said-apart s t i [] k l d e h = inl refl
said-apart s t i (m ∷ marks) k l d e h =
    let p = and_parts _ (have_no_twins marks) h in
    let none = not-true (list_any (are_twins m) marks) p.0 in
    let S = list_any (says_flag s i) marks in
    let T = list_any (says_flag t i) marks in
    let A = list_any (says_flag s i) (m ∷ marks) ≡ false in
    let B = list_any (says_flag t i) (m ∷ marks) ≡ false in
    let goal : A ⊎ B = ⊎_elim
    (λ y. inr (or_from (says_flag t i m) T (not-both s t i m d y) (none-said s t i m marks k y none)))
    (λ n. ⊎_elim
    (λ y. inl (or_from (says_flag s i m) S n (none-said t s i m marks l y none)))
    (λ o. ⊎_elim (λ q. inl (or_from (says_flag s i m) S n q)) (λ q. inr (or_from (says_flag t i m) T o q))
    (said-apart s t i marks k l d e p.1))
    (cases_Bool (says_flag t i m)))
    (cases_Bool (says_flag s i m)) in
    goal

-- the masks of twins share no flag
pub masks-apart : (s t : Sign) (marks : List Mark) → same (is_need s) (is_need t) ≡ true → same (is_need t) (is_need s) ≡ true
    → (sign_byte s == sign_byte t) ≡ false → (sign_byte t == sign_byte s) ≡ false → have_no_twins marks ≡ true
    → bit_and (mask_of s marks) (mask_of t marks) ≡ 0
masks-apart s t marks k l d e h =
    let a = mask_of s marks in
    let b = mask_of t marks in
    same_from_bits (bit_and a b) 0 (λ i.
    let z = bit_at-zero i in
    bit_at_and a b i ∙ ⊎_elim
    (λ n. let x = bit-kept s i 0 marks n in omega (arith, x, z))
    (λ n. let x = bit-kept t i 0 marks n in omega (arith, x, z))
    (said-apart s t i marks k l d e h))
