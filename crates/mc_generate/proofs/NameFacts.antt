-- The names of a generated script are names, and differ; the decimal of a small number is a body.
use Rattle.std.proofs.Common.{◌≡◌, ℕ, ◌+◌, ◌<◌, ◌≤◌, ◌==◌, nat_le, Bool, true, false, not, ◌&&◌, ◌||◌, List, [], ◌∷◌, ◌++◌}
use Rattle.std.proofs.Common.{length, codes, decimal, refl, ap, subst, ◌∙◌, arith, length-append}
use Rattle.std.proofs.lemmas.Bool.{and_parts, and_from, le-leb, false_from_ne_true}
use Rattle.std.proofs.lemmas.Fmt.{decimal_digit, length-decimal-le}
use Rattle.std.proofs.{lemmas.Bool.Decides.nat_tests, lemmas.List.append_cancel_left, lemmas.List.Folds.list_all-append, lemmas.Slice.Eq.bytes_eq-Decides}
use Rattle.std.specs.{List.list_all, Str.bytes_eq}
use Rattle.mc_protocol.proofs.Decimals.{decimal-spells, one_number}
use Rattle.mc_protocol.specs.Names.{is_name_byte, are_name_bytes, is_name, are_distinct}
use Rattle.mc_protocol.specs.{Decimals.SpellsNumber, Decimals.is_digit, Decimals.are_digits, Decimals.MAX_64, Lines.Word}
use Rattle.mc_script.specs.{Script.AreDeclared, ScriptWords.is_label_name, ScriptWords.is_body_byte, ScriptWords.are_body_bytes, ScriptWords.is_body}
use Rattle.mc_settings.specs.JobKeys.{key_name}
use Rattle.mc_generate.specs.Generated.{label_name, names_of}

-- ---- decimals

spells : (n : ℕ) → n ≤ MAX_64 → SpellsNumber MAX_64 (decimal n) n
spells n small = decimal-spells MAX_64 n (omega arith) small

or-second : (a b c : Bool) → b ≡ true → (a || b || c) ≡ true
or-second true b c h = refl
or-second false b c h = rw h refl

or-third : (a b c : Bool) → c ≡ true → (a || b || c) ≡ true
or-third true b c h = refl
or-third false true c h = refl
or-third false false c h = h

digits-named : (xs : List ℕ) → are_digits xs ≡ true → are_name_bytes xs ≡ true
digits-named [] h = refl
digits-named (x ∷ xs) h =
    let p = and_parts (is_digit x) (are_digits xs) h in
    and_from (is_name_byte x) (are_name_bytes xs) (or-second (nat_le 97 x && nat_le x 122) (is_digit x) (x == 45) p.0) (digits-named xs p.1)

digits-body : (xs : List ℕ) → are_digits xs ≡ true → are_body_bytes xs ≡ true
digits-body [] h = refl
digits-body (x ∷ xs) h =
    let p = and_parts (is_digit x) (are_digits xs) h in
    and_from (is_body_byte x) (are_body_bytes xs) (or-third (nat_le 65 x && nat_le x 90) (nat_le 97 x && nat_le x 122) (is_digit x) p.0)
    (digits-body xs p.1)

pub decimal-body : (n : ℕ) → n < 100 → is_body (decimal n) ≡ true
decimal-body n small =
    let s = spells n (omega arith) in
    let short = s.short in
    and_from (nat_le (length (decimal n)) 64) (are_body_bytes (decimal n)) (le-leb (length (decimal n)) 64 (omega arith))
    (digits-body (decimal n) s.digits)

-- ---- names

not-empty : (n : ℕ) → 0 < n → not (n == 0) ≡ true
not-empty n some = grind (arith, nat_tests)

named : (limit : ℕ) (name : Word) → 0 < length name → length name ≤ limit → are_name_bytes name ≡ true → is_name limit name ≡ true
named limit name some short bytes =
    and_from (not (length name == 0) && nat_le (length name) limit) (are_name_bytes name)
    (and_from (not (length name == 0)) (nat_le (length name) limit) (not-empty (length name) some) (le-leb (length name) limit short)) bytes

named-append : (xs ys : Word) → are_name_bytes xs ≡ true → are_name_bytes ys ≡ true → are_name_bytes (xs ++ ys) ≡ true
named-append xs ys h k = list_all-append is_name_byte xs ys ∙ and_from (are_name_bytes xs) (are_name_bytes ys) h k

-- what is not the same for two numbers
decimals-differ : (i j : ℕ) → i < j → j ≤ MAX_64 → decimal i ≡ decimal j → ⊥
decimals-differ i j before small e =
    let same : i ≡ j = one_number MAX_64 MAX_64 (decimal j) i j (subst (λ word. SpellsNumber MAX_64 word i) e (spells i (omega arith))) (spells j small) in
    absurd (omega arith)

-- ---- keys

-- what stands before the number of a key
abbrev key_front : ℕ → Word
key_front job = codes "r" ++ decimal job ++ codes "-"

key-named : (job key : ℕ) → job ≤ MAX_64 → key < 2 → is_name 40 (key_name job key) ≡ true
key-named job key small k =
    let s = spells job small in
    let t = spells key (omega arith) in
    let s-short = s.short in
    let digit : length (decimal key) ≡ 1 = ap length (decimal_digit key (omega arith)) in
    let size : length (key_name job key) ≡ length (key_front job) + length (decimal key) = length-append (key_front job) (decimal key) in
    let front : length (key_front job) ≡ length (codes "r" ++ decimal job) + 1 = length-append (codes "r" ++ decimal job) (codes "-") in
    let first : length (codes "r" ++ decimal job) ≡ 1 + length (decimal job) = length-append (codes "r") (decimal job) in
    named 40 (key_name job key) (omega arith) (omega arith)
    (named-append (key_front job) (decimal key)
    (named-append (codes "r" ++ decimal job) (codes "-") (named-append (codes "r") (decimal job) refl (digits-named (decimal job) s.digits)) refl)
    (digits-named (decimal key) t.digits))

keys-differ : (job : ℕ) → bytes_eq (key_name job 0) (key_name job 1) ≡ false
keys-differ job =
    false_from_ne_true (bytes_eq (key_name job 0) (key_name job 1))
    (λ h. decimals-differ 0 1 (omega arith) (omega arith)
    (append_cancel_left (key_front job) (decimal 0) (decimal 1) ((bytes_eq-Decides (key_name job 0) (key_name job 1)).0 h)))

two-distinct : (name other : Word) → bytes_eq name other ≡ false → are_distinct (name ∷ other ∷ []) ≡ true
two-distinct name other h = rw h refl

pub declared : (job : ℕ) → job ≤ MAX_64 → AreDeclared (names_of job)
declared job small = record {
  some = refl;
  keys = and_from (list_all (is_name 40) (names_of job).keys) (are_distinct (names_of job).keys)
      (and_from (is_name 40 (key_name job 0)) (is_name 40 (key_name job 1) && true) (key-named job 0 small (omega arith))
      (and_from (is_name 40 (key_name job 1)) true (key-named job 1 small (omega arith)) refl))
      (two-distinct (key_name job 0) (key_name job 1) (keys-differ job));
  flags = refl;
  vars = refl;
}

-- ---- labels

pub label-named : (index : ℕ) → index < 100 → is_label_name (label_name index) ≡ true
label-named index small =
    let short = length-decimal-le 2 index (omega arith) (omega arith) (omega arith) in
    let s = spells index (omega arith) in
    named 20 (label_name index) (omega arith) (omega arith) (named-append (codes "l") (decimal index) refl (digits-named (decimal index) s.digits))

pub labels-differ : (i j : ℕ) → i < j → j < 100 → bytes_eq (label_name i) (label_name j) ≡ false
labels-differ i j before small =
    false_from_ne_true (bytes_eq (label_name i) (label_name j))
    (λ h. decimals-differ i j before (omega arith)
    (append_cancel_left (codes "l") (decimal i) (decimal j) ((bytes_eq-Decides (label_name i) (label_name j)).0 h)))
