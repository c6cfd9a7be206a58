-- A word is read as a body exactly where it spells it.
use Rattle.std.proofs.Common.{◌≡◌, ℕ, ◌+◌, ◌*◌, ◌==◌, nat_le, Bool, true, false, cond, Option, Some}
use Rattle.std.proofs.Common.{None, Result, Ok, Err, List, [], ◌∷◌, length, refl, sym, ap, ◌∙◌, inl, inr, arith}
use Rattle.std.proofs.lemmas.Bool.{eqb-true, leb-true, le-leb}
use Rattle.mc_model.specs.Types.{REPLY_BODY_LIMIT, Word}
use Rattle.mc_words.specs.declared.words_fault.WordsKind.{WordsKind}
use Rattle.mc_words.specs.Words.{SpellsByte, SpellsBytes, SpellsBody, is_plain, hex_value}
use Rattle.mc_words.specs.Reading.{◌>>=◌, first_byte_in, bytes_in, body_in, in_front, hex_before, if_plain, if_hex, within_limit}
use Rattle.mc_words.specs.declared.words_fault.WordsKind.TheVariants as kind
use Rattle.mc_words.proofs.{Readings.then-ok, Readings.steps-ok, Readings.ok-same, Escaped.read_on, Escaped.bytes_in-first}

-- ---- one byte: what is read is spelled

-- what a first byte is read as
abbrev FirstByte : Type 0
FirstByte = Result (Option (ℕ × List ℕ)) WordsKind

some-same : (a b : ℕ) (xs ys : List ℕ) → ◌≡◌ {A = FirstByte} (Ok (Some (a, xs))) (Ok (Some (b, ys))) → (a ≡ b) × (xs ≡ ys)
some-same a b xs ys e =
    let p : ◌≡◌ {A = ℕ × List ℕ} (a, xs) (b, ys) = cc in
    (ap (λ q. q.0) p, ap (λ q. q.1) p)

plain-spelled : (a : ℕ) (xs : List ℕ) (byte : ℕ) (rest : List ℕ) → if_plain a xs ≡ Ok (Some (byte, rest)) → SpellsByte (a ∷ xs) byte rest
plain-spelled a xs byte rest h =
    let p = then-ok (is_plain a) (Ok (Some (a, xs))) kind.Form (Some (byte, rest)) h in
    let s = some-same a byte xs rest p.1 in
    inl (rw (s.0, s.1) refl, rw (← s.0) p.0)

hex-spelled : (a b : ℕ) (high low : Option ℕ) (xs : List ℕ) (byte : ℕ) (rest : List ℕ) → hex_value a ≡ high → hex_value b ≡ low
    → if_hex high low xs ≡ Ok (Some (byte, rest)) → SpellsByte (37 ∷ a ∷ b ∷ xs) byte rest
hex-spelled a b (Some h) (Some l) xs byte rest p q e =
    let s = some-same (h * 16 + l) byte xs rest e in
    inr (a, b, h, l, rw s.1 refl, p, q, sym s.0)
hex-spelled a b (Some h) None xs byte rest p q e = absurd (cc)
hex-spelled a b None low xs byte rest p q e = absurd (cc)

either-spelled : (percent : Bool) (a b c : ℕ) (xs : List ℕ) (byte : ℕ) (rest : List ℕ) → (a == 37) ≡ percent
    → cond percent (if_hex (hex_value b) (hex_value c) xs) (if_plain a (b ∷ c ∷ xs)) ≡ Ok (Some (byte, rest)) → SpellsByte (a ∷ b ∷ c ∷ xs) byte rest
either-spelled true a b c xs byte rest p h =
    let e = eqb-true a 37 p in
    rw e (hex-spelled b c (hex_value b) (hex_value c) xs byte rest refl refl h)
either-spelled false a b c xs byte rest p h = plain-spelled a (b ∷ c ∷ xs) byte rest h

first-spelled : (text : List ℕ) (byte : ℕ) (rest : List ℕ) → first_byte_in text ≡ Ok (Some (byte, rest)) → SpellsByte text byte rest
first-spelled [] byte rest h = absurd (cc)
first-spelled (a ∷ []) byte rest h = plain-spelled a [] byte rest h
first-spelled (a ∷ b ∷ []) byte rest h = plain-spelled a (b ∷ []) byte rest h
first-spelled (a ∷ b ∷ c ∷ xs) byte rest h = either-spelled (a == 37) a b c xs byte rest refl h

-- ---- one byte: what is spelled is read

not-percent : (byte : ℕ) → is_plain byte ≡ true → (byte == 37) ≡ false
not-percent byte h = grind arith

plain-read : (byte : ℕ) (rest : List ℕ) → is_plain byte ≡ true → first_byte_in (byte ∷ rest) ≡ Ok (Some (byte, rest))
plain-read byte [] h = rw h refl
plain-read byte (x ∷ []) h = rw h refl
plain-read byte (x ∷ y ∷ rest) h = rw (h, not-percent byte h) refl

first-read : (text : List ℕ) (byte : ℕ) (rest : List ℕ) → SpellsByte text byte rest → first_byte_in text ≡ Ok (Some (byte, rest))
first-read text byte rest (inl (e, plain)) = rw e (plain-read byte rest plain)
first-read text byte rest (inr (high, low, h, l, e, p, q, v)) = rw (e, p, q, v) refl

-- ---- all bytes

in_front-ok : (x y : ℕ) (ys : List ℕ) (read : Result (List ℕ) WordsKind) → in_front x read ≡ Ok (y ∷ ys) → (x ≡ y) × (read ≡ Ok ys)
in_front-ok x y ys (Ok bytes) h = (cc, cc)
in_front-ok x y ys (Err e) h = absurd (cc)

-- the first byte of bytes that were read
read_on-ok : (first : FirstByte) (byte : ℕ) (bytes : List ℕ) → read_on first ≡ Ok (byte ∷ bytes)
    → (rest : List ℕ) × (first ≡ Ok (Some (byte, rest))) × (bytes_in rest ≡ Ok bytes)
read_on-ok (Err e) byte bytes h = absurd (cc)
read_on-ok (Ok None) byte bytes h = absurd (cc)
read_on-ok (Ok (Some p)) byte bytes h =
    let k = in_front-ok p.0 byte bytes (bytes_in p.1) h in
    (p.1, ap (λ x. Ok (Some (x, p.1))) k.0, k.1)

some-either : (percent plain : Bool) (high low : Option ℕ) (a : ℕ) (read other : Result (List ℕ) WordsKind)
    → cond percent (hex_before high low read) (cond plain (in_front a other) (Err kind.Form)) ≡ Ok [] → ⊥
some-either percent plain high low a read other h = grind arith

-- only the empty text stands for no byte
bytes-end : (text : List ℕ) → bytes_in text ≡ Ok [] → text ≡ []
bytes-end [] h = refl
bytes-end (a ∷ []) h = absurd (grind arith)
bytes-end (a ∷ b ∷ []) h = absurd (grind arith)
bytes-end (a ∷ b ∷ c ∷ xs) h = absurd (some-either (a == 37) (is_plain a) (hex_value b) (hex_value c) a (bytes_in xs) (bytes_in (b ∷ c ∷ xs)) h)

bytes-spelled : (text bytes : List ℕ) → bytes_in text ≡ Ok bytes → SpellsBytes text bytes
bytes-spelled text [] h = bytes-end text h
bytes-spelled text (byte ∷ bytes) h =
    let k = read_on-ok (first_byte_in text) byte bytes (sym (bytes_in-first text) ∙ h) in
    (k.0, first-spelled text byte k.0 k.1, bytes-spelled k.0 bytes k.2)

bytes-read : (text bytes : List ℕ) → SpellsBytes text bytes → bytes_in text ≡ Ok bytes
bytes-read text [] h = ap bytes_in h
bytes-read text (byte ∷ bytes) (rest, first, others) =
    bytes_in-first text ∙ ap read_on (first-read text byte rest first) ∙ ap (in_front byte) (bytes-read rest bytes others)

-- ---- the word

pub body-spelled : (word : Word) (body : List ℕ) → body_in word ≡ Ok body → SpellsBody word body
unfolding body_in
body-spelled [] body h = absurd (cc)
body-spelled (first ∷ text) body h =
    let p = then-ok (first == 61) (bytes_in text >>= within_limit) kind.Form body h in
    let q = steps-ok (bytes_in text) within_limit body p.1 in
    let s = then-ok (nat_le (length q.0) REPLY_BODY_LIMIT) (Ok q.0) kind.Form body q.2 in
    let same = ok-same q.0 body s.1 in
    (text, ap (λ x. x ∷ text) (eqb-true first 61 p.0), bytes-spelled text body (q.1 ∙ s.1), leb-true (length body) REPLY_BODY_LIMIT (rw same at s.0))

pub body-read : (word : Word) (body : List ℕ) → SpellsBody word body → body_in word ≡ Ok body
unfolding body_in
body-read word body (text, e, spelled, small) = rw (e, bytes-read text body spelled, le-leb (length body) REPLY_BODY_LIMIT small) refl

-- a word spells one body
pub one_body : (word : Word) (a b : List ℕ) → SpellsBody word a → SpellsBody word b → a ≡ b
one_body word a b s t = ok-same a b (sym (body-read word a s) ∙ body-read word b t)
