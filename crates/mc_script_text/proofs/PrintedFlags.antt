-- The flags of a template as marks: they say its masks, and none are twins.
use Rattle.std.proofs.Common.{◌≡◌, ℕ, ◌+◌, ◌*◌, ◌%◌, ◌<◌, ◌≤◌, ◌==◌, ◌^◌, Bool, true, false, not, cond, Some, None, List, subst}
use Rattle.std.proofs.Common.{[], ◌∷◌, ◌++◌, length, get_or, bit_and, bit_or, min, refl, sym, ap, ◌∙◌, arith, suc}
use Rattle.std.proofs.lemmas.Bool.{and_parts, and_from, and_left, and_right, or_from, or_parts, not-true}
use Rattle.std.proofs.lemmas.Bool.{not_from_false, eqb-true, eq-eqb, ne_eqb, both_ways, cond_both}
use Rattle.std.proofs.{lemmas.List.Folds.list_all-append, lemmas.Nat.mod-pow-add, lemmas.Nat.or_shifted, lemmas.Nat.or_comm, lemmas.Nat.pow_pos}
use Rattle.std.proofs.{lemmas.Nat.mod_below, Math.Nat.mod-eq_of_lt, lemmas.Nat.Bits.bit_at_and, lemmas.Nat.Bits.bit_at-lt, lemmas.Nat.Bits.bit_at-zero}
use Rattle.std.specs.{Int.bit_at, List.list_all, List.list_any}
use Rattle.mc_script_text.specs.Marks.{sign_byte, is_need, are_twins, have_no_twins, says, with_flag}
use Rattle.mc_script_text.specs.{Values.Word, Values.Mark, Values.Sign, Values.Template, PrintedScript.flag_words, PrintedScript.all_flag_words}
use Rattle.mc_script_text.specs.Values.mark
use Rattle.mc_script_text.specs.Values.sign
use Rattle.mc_protocol.specs.{Legal.same, Spelling.SpellEach}
use Rattle.mc_script_text.proofs.Masks.{gathered}

-- ---- lists

pub each-append : {X V : Type 0} (S : X → V → Type 0) (xs ys : List X) (us vs : List V) → SpellEach S xs us → SpellEach S ys vs
    → SpellEach S (xs ++ ys) (us ++ vs)
each-append S [] ys [] vs h k = k
each-append S (x ∷ xs) ys (u ∷ us) vs h k = (h.0, each-append S xs ys us vs h.1 k)
each-append S xs ys us vs h k = absurd h

-- the word or the line stands for the value, and passes the test
abbrev pub With : {X V : Type 0} → (X → V → Type 0) → (X → Bool) → X → V → Type 0
With S p x v = S x v × (p x ≡ true)

pub both-apart : {X V : Type 0} (S : X → V → Type 0) (p : X → Bool) (xs : List X) (vs : List V) → SpellEach (With S p) xs vs
    → SpellEach S xs vs × (list_all p xs ≡ true)
both-apart S p [] [] h = (tt, refl)
both-apart S p (x ∷ xs) (v ∷ vs) h =
    let others = both-apart S p xs vs h.1 in
    ((h.0.0, others.0), and_from (p x) (list_all p xs) h.0.1 others.1)
both-apart S p xs vs h = absurd h

pub any-append : {X : Type 0} (p : X → Bool) (xs ys : List X) → list_any p xs ≡ false → list_any p ys ≡ false → list_any p (xs ++ ys) ≡ false
any-append p [] ys h k = k
any-append p (x ∷ xs) ys h k =
    let q = or_parts (p x) (list_any p xs) h in
    or_from (p x) (list_any p (xs ++ ys)) q.0 (any-append p xs ys q.1 k)

pub all-append : {X : Type 0} (p : X → Bool) (xs ys : List X) → list_all p xs ≡ true → list_all p ys ≡ true → list_all p (xs ++ ys) ≡ true
all-append p xs ys h k = list_all-append p xs ys ∙ and_from (list_all p xs) (list_all p ys) h k

-- no mark of the first list is a twin of one of the second
abbrev pub are_apart : List Mark → List Mark → Bool
are_apart xs ys = list_all (λ m. not (list_any (are_twins m) ys)) xs

pub no-twins-append : (xs ys : List Mark) → have_no_twins xs ≡ true → have_no_twins ys ≡ true → are_apart xs ys ≡ true → have_no_twins (xs ++ ys) ≡ true
no-twins-append [] ys h k a = k
no-twins-append (x ∷ xs) ys h k a =
    let p = and_parts (not (list_any (are_twins x) xs)) (have_no_twins xs) h in
    let q = and_parts (not (list_any (are_twins x) ys)) (are_apart xs ys) a in
    and_from (not (list_any (are_twins x) (xs ++ ys))) (have_no_twins (xs ++ ys))
    (not_from_false (list_any (are_twins x) (xs ++ ys))
    (any-append (are_twins x) xs ys (not-true (list_any (are_twins x) xs) p.0) (not-true (list_any (are_twins x) ys) q.0)))
    (no-twins-append xs ys p.1 k q.1)

pub apart-append : (xs ys zs : List Mark) → are_apart xs zs ≡ true → are_apart ys zs ≡ true → are_apart (xs ++ ys) zs ≡ true
apart-append xs ys zs h k = all-append (λ m. not (list_any (are_twins m) zs)) xs ys h k

-- ---- the flags of a mask

abbrev pub flag_marks : Sign → ℕ → ℕ → List Word → List Mark
flag_marks s mask k [] = []
flag_marks s mask k (name ∷ names) = cond (bit_at mask k == 1) (mark.Flag s k ∷ flag_marks s mask (k + 1) names) (flag_marks s mask (k + 1) names)

pub each-cond : {X V : Type 0} (S : X → V → Type 0) (b : Bool) (x : X) (v : V) (xs : List X) (vs : List V) → S x v → SpellEach S xs vs
    → SpellEach S (cond b (x ∷ xs) xs) (cond b (v ∷ vs) vs)
each-cond S true x v xs vs h k = (h, k)
each-cond S false x v xs vs h k = k

flags-spell : (S : Word → Mark → Type 0) (s : Sign) (mask k : ℕ) (ns : List Word)
    → ((j : ℕ) → j < length ns → S (sign_byte s ∷ get_or ns j []) (mark.Flag s (k + j))) → SpellEach S (flag_words s mask k ns) (flag_marks s mask k ns)
flags-spell S s mask k [] found = tt
flags-spell S s mask k (name ∷ ns) found =
    let P : Word → ℕ → Type 0 = λ w n. S (sign_byte s ∷ w) (mark.Flag s n) in
    let none : k + 0 ≡ k = omega arith in
    let rest : (j : ℕ) → j < length ns → P (get_or ns j []) (k + 1 + j) = λ j lt.
    let next : k + suc j ≡ k + 1 + j = omega arith in
    subst (P (get_or ns j [])) next (found (suc j) (omega arith)) in
    each-cond S (bit_at mask k == 1) (sign_byte s ∷ name) (mark.Flag s k) (flag_words s mask (k + 1) ns) (flag_marks s mask (k + 1) ns)
    (subst (P name) none (found 0 (omega arith))) (flags-spell S s mask (k + 1) ns rest)

-- what holds of each flag of the mask holds of the marks
pub flags-all : (p : Mark → Bool) (s : Sign) (mask k : ℕ) (ns : List Word) → ((f : ℕ) → (bit_at mask f == 1) ≡ true → p (mark.Flag s f) ≡ true)
    → list_all p (flag_marks s mask k ns) ≡ true
flags-all p s mask k [] h = refl
flags-all p s mask k (name ∷ ns) h =
    let rest = flags-all p s mask (k + 1) ns h in
    let others = flag_marks s mask (k + 1) ns in
    cond_both (bit_at mask k == 1) (mark.Flag s k ∷ others) others (λ ms. list_all p ms ≡ true)
    (λ e. and_from (p (mark.Flag s k)) (list_all p others) (h k e) rest) (λ _. rest)

-- ---- what they say

pub gathered-append : (s : Sign) (mask : ℕ) (xs ys : List Mark) → gathered s mask (xs ++ ys) ≡ gathered s (gathered s mask xs) ys
gathered-append s mask [] ys = refl
gathered-append s mask (x ∷ xs) ys = gathered-append s (with_flag mask (says s x)) xs ys

-- flags of another sign say nothing of this one
pub others-silent : (s t : Sign) (n mask k : ℕ) (ns : List Word) → (sign_byte s == sign_byte t) ≡ false → gathered s n (flag_marks t mask k ns) ≡ n
others-silent s t n mask k [] d = refl
others-silent s t n mask k (name ∷ ns) d =
    let others = flag_marks t mask (k + 1) ns in
    let rest = others-silent s t n mask (k + 1) ns d in
    let silent : says s (mark.Flag t k) ≡ None = rw d refl in
    cond_both (bit_at mask k == 1) (mark.Flag t k ∷ others) others (λ ms. gathered s n ms ≡ n)
    (λ _. ap (λ o. gathered s (with_flag n o) others) silent ∙ rest) (λ _. rest)

low-set : (mask k : ℕ) → bit_at mask k ≡ 1 → bit_or (mask % 2 ^ k) (2 ^ k) ≡ mask % 2 ^ (k + 1)
low-set mask k one =
    let r = mask % 2 ^ k in
    let small : r < 2 ^ k = mod_below mask (2 ^ k) (pow_pos k) in
    let unit : 1 * 2 ^ k ≡ 2 ^ k = omega arith in
    let turned : 1 + k ≡ k + 1 = omega arith in
    or_comm r (2 ^ k) ∙ ap (λ n. bit_or n r) (sym unit) ∙ or_shifted 1 k r small
    ∙ ap (λ n. n * 2 ^ k + r) (sym one) ∙ sym (mod-pow-add mask 1 k) ∙ ap (λ n. mask % 2 ^ n) turned

not-one : (n : ℕ) → (n == 1) ≡ false → n < 2 → n ≡ 0
not-one n h lt = grind (arith)

low-clear : (mask k : ℕ) → (bit_at mask k == 1) ≡ false → mask % 2 ^ k ≡ mask % 2 ^ (k + 1)
low-clear mask k none =
    let zero = not-one (bit_at mask k) none (bit_at-lt mask k) in
    let r = mask % 2 ^ k in
    let unit : r ≡ 0 * 2 ^ k + r = omega arith in
    let turned : 1 + k ≡ k + 1 = omega arith in
    unit ∙ ap (λ n. n * 2 ^ k + r) (sym zero) ∙ sym (mod-pow-add mask 1 k) ∙ ap (λ n. mask % 2 ^ n) turned

says-itself : (s : Sign) (k : ℕ) → says s (mark.Flag s k) ≡ Some k
says-itself s k = rw (eq-eqb (sign_byte s) (sign_byte s) refl) refl

gathered-own : (s : Sign) (mask k : ℕ) (ns : List Word) → gathered s (mask % 2 ^ k) (flag_marks s mask k ns) ≡ mask % 2 ^ (k + length ns)
gathered-own s mask k [] = let e : k ≡ k + length {A = Word} [] = omega arith in ap (λ n. mask % 2 ^ n) e
gathered-own s mask k (name ∷ ns) =
    let e : k + 1 + length ns ≡ k + length (name ∷ ns) = omega arith in
    let others = flag_marks s mask (k + 1) ns in
    let rest = gathered-own s mask (k + 1) ns ∙ ap (λ n. mask % 2 ^ n) e in
    cond_both (bit_at mask k == 1) (mark.Flag s k ∷ others) others (λ ms. gathered s (mask % 2 ^ k) ms ≡ mask % 2 ^ (k + length (name ∷ ns)))
    (λ h.
    let one : with_flag (mask % 2 ^ k) (says s (mark.Flag s k)) ≡ mask % 2 ^ (k + 1) =
    ap (with_flag (mask % 2 ^ k)) (says-itself s k) ∙ low-set mask k (eqb-true (bit_at mask k) 1 h) in
    ap (λ n. gathered s n others) one ∙ rest)
    (λ h. ap (λ n. gathered s n others) (low-clear mask k h) ∙ rest)

-- the marks of a mask say it
pub flags-say : (s : Sign) (mask : ℕ) (ns : List Word) → mask < 2 ^ length ns → gathered s 0 (flag_marks s mask 0 ns) ≡ mask
flags-say s mask ns small =
    let below = mod_below mask 1 (omega arith) in
    let none : mask % 2 ^ 0 ≡ 0 = omega (arith, below) in
    let e : 0 + length ns ≡ length ns = omega arith in
    ap (λ n. gathered s n (flag_marks s mask 0 ns)) (sym none) ∙ gathered-own s mask 0 ns ∙ ap (λ n. mask % 2 ^ n) e ∙ mod-eq_of_lt small

-- ---- none are twins

-- what holds of no flag of the mask from this one on holds of none of the marks
flags-none : (p : Mark → Bool) (s : Sign) (mask k : ℕ) (ns : List Word)
    → ((f : ℕ) → k ≤ f → (bit_at mask f == 1) ≡ true → p (mark.Flag s f) ≡ false) → list_any p (flag_marks s mask k ns) ≡ false
flags-none p s mask k [] h = refl
flags-none p s mask k (name ∷ ns) h =
    let rest = flags-none p s mask (k + 1) ns (λ f le. h f (omega (arith, le))) in
    let others = flag_marks s mask (k + 1) ns in
    cond_both (bit_at mask k == 1) (mark.Flag s k ∷ others) others (λ ms. list_any p ms ≡ false)
    (λ e. or_from (p (mark.Flag s k)) (list_any p others) (h k (omega arith) e) rest) (λ _. rest)

pub flags-distinct : (s : Sign) (mask k : ℕ) (ns : List Word) → have_no_twins (flag_marks s mask k ns) ≡ true
flags-distinct s mask k [] = refl
flags-distinct s mask k (name ∷ ns) =
    let rest = flags-distinct s mask (k + 1) ns in
    let others = flag_marks s mask (k + 1) ns in
    let twin = are_twins (mark.Flag s k) in
    cond_both (bit_at mask k == 1) (mark.Flag s k ∷ others) others (λ ms. have_no_twins ms ≡ true)
    (λ _. and_from (not (list_any twin others)) (have_no_twins others)
    (not_from_false (list_any twin others) (flags-none twin s mask (k + 1) ns (λ f le _.
    and_left (k == f) (same (is_need s) (is_need s)) (ne_eqb k f (λ e. absurd (omega (arith, le, e)))))))
    rest)
    (λ _. rest)

-- flags of two kinds are apart
pub kinds-apart : (s t : Sign) (a b k l : ℕ) (ns ms : List Word) → same (is_need s) (is_need t) ≡ false
    → are_apart (flag_marks s a k ns) (flag_marks t b l ms) ≡ true
kinds-apart s t a b k l ns ms d =
    flags-all (λ m. not (list_any (are_twins m) (flag_marks t b l ms))) s a k ns (λ f _.
    not_from_false _ (flags-none (are_twins (mark.Flag s f)) t b l ms (λ g _ _. and_right (f == g) (same (is_need s) (is_need t)) d)))

-- flags of masks that share none are apart
pub masks-are-apart : (s t : Sign) (a b k l : ℕ) (ns ms : List Word) → bit_and a b ≡ 0 → are_apart (flag_marks s a k ns) (flag_marks t b l ms) ≡ true
masks-are-apart s t a b k l ns ms none =
    flags-all (λ m. not (list_any (are_twins m) (flag_marks t b l ms))) s a k ns (λ f h.
    let one = eqb-true (bit_at a f) 1 h in
    let both : min (bit_at a f) (bit_at b f) ≡ 0 = sym (bit_at_and a b f) ∙ ap (λ n. bit_at n f) none ∙ bit_at-zero f in
    let zero : bit_at b f ≡ 0 = omega (arith, one, both) in
    not_from_false _ (flags-none (are_twins (mark.Flag s f)) t b l ms (λ g _ on.
    and_left (f == g) (same (is_need s) (is_need t))
    (ne_eqb f g (λ e. both_ways (bit_at b f == 1) (ap (λ n. n == 1) zero) (ap (λ n. bit_at b n == 1) e ∙ on))))))

-- ---- all flags of a template

abbrev pub all_flag_marks : List Word → Template → List Mark
all_flag_marks names t =
    flag_marks sign.RequireSet t.require_set 0 names ++ flag_marks sign.RequireClear t.require_clear 0 names
    ++ flag_marks sign.Sets t.sets 0 names ++ flag_marks sign.Clears t.clears 0 names

pub all-flags-spell : (S : Word → Mark → Type 0) (ns : List Word) (t : Template)
    → ((s : Sign) (j : ℕ) → j < length ns → S (sign_byte s ∷ get_or ns j []) (mark.Flag s (0 + j)))
    → SpellEach S (all_flag_words ns t) (all_flag_marks ns t)
all-flags-spell S ns t found =
    let flags = λ (s : Sign) (mask : ℕ). flags-spell S s mask 0 ns (found s) in
    each-append S _ _ _ _ (each-append S _ _ _ _ (each-append S _ _ _ _ (flags sign.RequireSet t.require_set) (flags sign.RequireClear t.require_clear))
    (flags sign.Sets t.sets)) (flags sign.Clears t.clears)

pub all-flags-all : (p : Mark → Bool) (ns : List Word) (t : Template) → ((s : Sign) (f : ℕ) → p (mark.Flag s f) ≡ true)
    → list_all p (all_flag_marks ns t) ≡ true
all-flags-all p ns t h =
    let one : (s : Sign) (mask : ℕ) → list_all p (flag_marks s mask 0 ns) ≡ true = λ s mask. flags-all p s mask 0 ns (λ f _. h s f) in
    all-append p _ _ (all-append p _ _ (all-append p _ _ (one sign.RequireSet t.require_set) (one sign.RequireClear t.require_clear))
    (one sign.Sets t.sets)) (one sign.Clears t.clears)

pub all-flags-distinct : (ns : List Word) (t : Template) → bit_and t.require_set t.require_clear ≡ 0 → bit_and t.sets t.clears ≡ 0
    → have_no_twins (all_flag_marks ns t) ≡ true
all-flags-distinct ns t needs changes =
    let F : Sign → ℕ → List Mark = λ s mask. flag_marks s mask 0 ns in
    let D : (s : Sign) (mask : ℕ) → have_no_twins (F s mask) ≡ true = λ s mask. flags-distinct s mask 0 ns in
    let a = F sign.RequireSet t.require_set in
    let b = F sign.RequireClear t.require_clear in
    let c = F sign.Sets t.sets in
    let d = F sign.Clears t.clears in
    let ab = no-twins-append a b (D sign.RequireSet t.require_set) (D sign.RequireClear t.require_clear)
    (masks-are-apart sign.RequireSet sign.RequireClear t.require_set t.require_clear 0 0 ns ns needs) in
    let ac = kinds-apart sign.RequireSet sign.Sets t.require_set t.sets 0 0 ns ns refl in
    let bc = kinds-apart sign.RequireClear sign.Sets t.require_clear t.sets 0 0 ns ns refl in
    let abc = no-twins-append (a ++ b) c ab (D sign.Sets t.sets) (apart-append a b c ac bc) in
    let ad = kinds-apart sign.RequireSet sign.Clears t.require_set t.clears 0 0 ns ns refl in
    let bd = kinds-apart sign.RequireClear sign.Clears t.require_clear t.clears 0 0 ns ns refl in
    let cd = masks-are-apart sign.Sets sign.Clears t.sets t.clears 0 0 ns ns changes in
    no-twins-append (a ++ b ++ c) d abc (D sign.Clears t.clears) (apart-append (a ++ b) c d (apart-append a b d ad bd) cd)
