-- Names, numbers and bodies that are printed: they are whole words, and spell what they were printed of.
use Rattle.std.proofs.Common.{◌≡◌, ℕ, ◌+◌, ◌<◌, ◌≤◌, ◌==◌, nat_le, nat_lt, Bool, true, false, not, ◌&&◌, Some, List}
use Rattle.std.proofs.Common.{[], ◌∷◌, ◌++◌, length, slice_get, decimal, refl, ap, ◌∙◌, arith, suc, zero}
use Rattle.std.proofs.lemmas.Bool.{and_parts, and_from, or_parts, not-true, lt-ltb}
use Rattle.std.proofs.{lemmas.Bool.Decides.nat_tests, lemmas.List.Folds.list_all-append}
use Rattle.std.specs.{List.list_all, List.list_any, List.position_or_len, Str.bytes_eq}
use Rattle.mc_script_text.specs.{Values.Word, Values.Label, Steps.label_after, PrintedScript.name_at, PrintedScript.label_at}
use Rattle.mc_protocol.specs.{Decimals.is_digit, Decimals.MAX_64, Names.is_name, Names.is_name_byte, Names.is_new, Names.are_distinct, Names.index_of}
use Rattle.mc_protocol.proofs.Decimals.{decimal-spells}
use Rattle.mc_script.specs.ScriptWords.{is_label_name, is_body, is_body_byte, body_word, label_word}
use Rattle.mc_script.specs.WellFormed.{label_names}
use Rattle.mc_script_text.proofs.PrintedLines.{is_plain, are_plain, is_whole, all-weaker}
use Rattle.mc_script_text.proofs.{Lists.three, Lists.some-first, SectionLines.bytes-equal}

-- ---- numbers

digit-plain : (byte : ℕ) → is_digit byte ≡ true → is_plain byte ≡ true
digit-plain byte h = grind (arith, nat_tests)

pub decimal-whole : (n : ℕ) → n ≤ MAX_64 → is_whole (decimal n) ≡ true
decimal-whole n small =
    let s = decimal-spells MAX_64 n (omega arith) small in
    and_from (not (length (decimal n) == 0)) (are_plain (decimal n)) s.some (all-weaker is_digit is_plain digit-plain (decimal n) s.digits)

-- ---- names and bodies

name-plain : (byte : ℕ) → is_name_byte byte ≡ true → is_plain byte ≡ true
name-plain byte h = grind (arith, nat_tests)

body-plain : (byte : ℕ) → is_body_byte byte ≡ true → is_plain byte ≡ true
body-plain byte h = grind (arith, nat_tests)

pub named-plain : (limit : ℕ) (name : Word) → is_name limit name ≡ true → are_plain name ≡ true
named-plain limit name h = all-weaker is_name_byte is_plain name-plain name (three (not (length name == 0)) (nat_le (length name) limit) _ h).2

pub named-whole : (limit : ℕ) (name : Word) → is_name limit name ≡ true → is_whole name ≡ true
named-whole limit name h =
    and_from (not (length name == 0)) (are_plain name) (three (not (length name == 0)) (nat_le (length name) limit) _ h).0 (named-plain limit name h)

-- a plain byte in front of plain bytes
pub front-whole : (byte : ℕ) (name : Word) → is_plain byte ≡ true → are_plain name ≡ true → is_whole (byte ∷ name) ≡ true
front-whole byte name p h = rw (some-first byte name, p, h) refl

pub body-whole : (body : List ℕ) → is_body body ≡ true → is_whole (body_word body) ≡ true
body-whole body h = front-whole 61 body refl (all-weaker is_body_byte is_plain body-plain body (and_parts _ _ h).1)

label-some : (name : Word) → not (length (name ++ 58 ∷ []) == 0) ≡ true
label-some [] = refl
label-some (byte ∷ name) = some-first byte (name ++ 58 ∷ [])

pub label-whole : (name : Word) → is_label_name name ≡ true → is_whole (label_word name) ≡ true
label-whole name h =
    and_from (not (length (label_word name) == 0)) (are_plain (label_word name)) (label-some name)
    (list_all-append is_plain name (58 ∷ []) ∙ and_from (are_plain name) true (named-plain _ name h) refl)

-- ---- names by their index

-- each of the names has what all have
pub name-has : (p : Word → Bool) (names : List Word) (index : ℕ) → list_all p names ≡ true → index < length names → p (name_at names index) ≡ true
name-has p [] index all lt = absurd (omega arith)
name-has p (name ∷ names) zero all lt = (and_parts (p name) (list_all p names) all).0
name-has p (name ∷ names) (suc index) all lt =
    let n : index < length names = omega arith in name-has p names index (and_parts (p name) (list_all p names) all).1 n

new-apart : (name : Word) (names : List Word) (index : ℕ) → list_any (bytes_eq name) names ≡ false → index < length names
    → bytes_eq name (name_at names index) ≡ false
new-apart name [] index none lt = absurd (omega arith)
new-apart name (x ∷ names) zero none lt = (or_parts (bytes_eq name x) (list_any (bytes_eq name) names) none).0
new-apart name (x ∷ names) (suc index) none lt =
    let n : index < length names = omega arith in
    new-apart name names index (or_parts (bytes_eq name x) (list_any (bytes_eq name) names) none).1 n

place-found : (names : List Word) (index : ℕ) → are_distinct names ≡ true → index < length names
    → position_or_len (λ name. bytes_eq name (name_at names index)) names ≡ index
place-found [] index distinct lt = absurd (omega arith)
place-found (name ∷ names) zero distinct lt = rw (bytes-equal name) refl
place-found (name ∷ names) (suc index) distinct lt =
    let p = and_parts (is_new names name) (are_distinct names) distinct in
    let n : index < length names = omega arith in
    let e : 1 + index ≡ suc index = omega arith in
    rw (new-apart name names index (not-true (list_any (bytes_eq name) names) p.0) n) (ap (λ k. 1 + k) (place-found names index p.1 n) ∙ e)

-- the name with an index has this index
pub index-found : (names : List Word) (index : ℕ) → are_distinct names ≡ true → index < length names → index_of names (name_at names index) ≡ Some index
index-found names index distinct lt =
    rw (place-found names index distinct lt, lt-ltb index (length names) lt) refl

-- ---- labels by their index

pub names-length : (ls : List Label) → length (label_names ls) ≡ length ls
names-length [] = refl
names-length (l ∷ ls) = let e = names-length ls in omega (arith, e)

label-place-found : (labels : List Label) (place index : ℕ) (label : Label) → are_distinct (label_names labels) ≡ true
    → slice_get labels index ≡ Some label → place < label.place
    → (position_or_len (λ l. bytes_eq l.name (label_at labels index) && nat_lt place l.place) labels ≡ index) × (index < length labels)
label-place-found [] place index label distinct get lt = absurd (cc)
label-place-found (l ∷ labels) place zero label distinct get lt =
    let same : l ≡ label = cc in
    let behind : place < l.place = rw same lt in
    (rw (bytes-equal l.name, lt-ltb place l.place behind) refl, omega arith)
label-place-found (l ∷ labels) place (suc index) label distinct get lt =
    let p = and_parts (is_new (label_names labels) l.name) (are_distinct (label_names labels)) distinct in
    let rest = label-place-found labels place index label p.1 get lt in
    let e : 1 + index ≡ suc index = omega arith in
    let below = rest.1 in
    let named : length (label_names labels) ≡ length labels = names-length labels in
    let n : index < length (label_names labels) = omega (arith, named, below) in
    (rw (new-apart l.name (label_names labels) index (not-true _ p.0) n) (ap (λ k. 1 + k) rest.0 ∙ e), omega (arith, below))

-- the label with an index is found by its name from each place above it
pub label-found : (labels : List Label) (place index : ℕ) (label : Label) → are_distinct (label_names labels) ≡ true
    → slice_get labels index ≡ Some label → place < label.place → label_after labels place (label_at labels index) ≡ Some index
label-found labels place index label distinct get lt =
    let p = label-place-found labels place index label distinct get lt in
    rw (p.0, lt-ltb index (length labels) p.1) refl
