-- Keys under a name: they may be declared where those without it may, if none becomes too long.
use Rattle.std.proofs.Common.{◌≡◌, ℕ, ◌≤◌, ◌==◌, nat_le, Bool, true, false, not, ◌&&◌, List, [], ◌∷◌, ◌++◌, length, codes}
use Rattle.std.proofs.Common.{◌+◌, refl, sym, subst, ◌∙◌, arith, length-append}
use Rattle.std.proofs.lemmas.Bool.{and_parts, and_from, ltb-false, le-leb, eq-eqb}
use Rattle.std.proofs.lemmas.List.Elements.{All-nil, All-cons, All-head, All-tail}
use Rattle.std.proofs.{lemmas.List.length-map, lemmas.Bool.Decides.nat_tests, lemmas.List.Folds.list_all-append}
use Rattle.std.specs.{List.All, List.list_all, List.list_any, Str.bytes_eq}
use Rattle.mc_protocol.specs.Names.{is_name, is_name_byte, are_name_bytes, are_distinct}
use Rattle.mc_protocol.specs.{Lines.Word, declared.limits.TheConstants.KEYS_LIMIT, declared.limits.TheConstants.KEY_BYTES_LIMIT}
use Rattle.mc_script.specs.Script.{may_be_declared}
use Rattle.mc_settings.specs.Namespaces.{is_namespace, key_under, is_too_long, AreShort}
use Rattle.mc_generate.specs.CodesUnder.{keys_under}

-- ---- they are names

-- the name's bytes are those of names
bytes-of : (limit : ℕ) (word : Word) → is_name limit word ≡ true → are_name_bytes word ≡ true
bytes-of limit word h = (and_parts (not (length word == 0) && nat_le (length word) limit) (are_name_bytes word) h).1

some-of : (limit : ℕ) (word : Word) → is_name limit word ≡ true → not (length word == 0) ≡ true
some-of limit word h =
    (and_parts (not (length word == 0)) (nat_le (length word) limit)
    (and_parts (not (length word == 0) && nat_le (length word) limit) (are_name_bytes word) h).0).0

some-under : (name key : Word) → not (length name == 0) ≡ true → not (length (key_under name key) == 0) ≡ true
some-under [] key h = absurd (cc)
some-under (byte ∷ name) key h = grind (arith, nat_tests)

name-under : (name key : Word) → is_namespace name ≡ true → is_name KEY_BYTES_LIMIT key ≡ true → is_too_long name key ≡ false
    → is_name KEY_BYTES_LIMIT (key_under name key) ≡ true
name-under name key is named short =
    let under = key_under name key in
    let few : nat_le (length under) KEY_BYTES_LIMIT ≡ true = le-leb (length under) KEY_BYTES_LIMIT (ltb-false KEY_BYTES_LIMIT (length under) short) in
    let bytes : are_name_bytes under ≡ true
    = list_all-append is_name_byte name (codes "-" ++ key)
    ∙ and_from (are_name_bytes name) (are_name_bytes (codes "-" ++ key)) (bytes-of _ name is) (bytes-of KEY_BYTES_LIMIT key named) in
    and_from (not (length under == 0) && nat_le (length under) KEY_BYTES_LIMIT) (are_name_bytes under)
    (and_from (not (length under == 0)) (nat_le (length under) KEY_BYTES_LIMIT) (some-under name key (some-of _ name is)) few) bytes

-- none of them becomes too long
abbrev IsShort : Word → Word → Type 0
IsShort name key = is_too_long name key ≡ false

names-under : (name : Word) (keys : List Word) → is_namespace name ≡ true → list_all (is_name KEY_BYTES_LIMIT) keys ≡ true → AreShort name keys
    → list_all (is_name KEY_BYTES_LIMIT) (keys_under name keys) ≡ true
names-under name [] is named short = refl
names-under name (key ∷ keys) is named short =
    let parts = and_parts (is_name KEY_BYTES_LIMIT key) (list_all (is_name KEY_BYTES_LIMIT) keys) named in
    and_from (is_name KEY_BYTES_LIMIT (key_under name key)) (list_all (is_name KEY_BYTES_LIMIT) (keys_under name keys))
    (name-under name key is parts.0 (All-head (IsShort name) key keys short)) (names-under name keys is parts.1 (All-tail (IsShort name) key keys short))

-- ---- no two are equal

same-byte : (byte : ℕ) (b : Bool) → (byte == byte) && b ≡ b
same-byte byte b = rw (eq-eqb byte byte refl) refl

-- what stands before both counts for nothing
front-counts-not : (front one other : Word) → bytes_eq (front ++ one) (front ++ other) ≡ bytes_eq one other
front-counts-not [] one other = refl
front-counts-not (byte ∷ front) one other = same-byte byte (bytes_eq (front ++ one) (front ++ other)) ∙ front-counts-not front one other

equal-under : (name one other : Word) → bytes_eq (key_under name one) (key_under name other) ≡ bytes_eq one other
equal-under name one other = front-counts-not name (codes "-" ++ one) (codes "-" ++ other)

any-under : (name key : Word) (keys : List Word) → list_any (bytes_eq (key_under name key)) (keys_under name keys) ≡ list_any (bytes_eq key) keys
any-under name key [] = refl
any-under name key (other ∷ keys) = rw (equal-under name key other, any-under name key keys) refl

distinct-under : (name : Word) (keys : List Word) → are_distinct (keys_under name keys) ≡ are_distinct keys
distinct-under name [] = refl
distinct-under name (key ∷ keys) = rw (any-under name key keys, distinct-under name keys) refl

-- ---- they may be declared

pub length_under : (name key : Word) → length (key_under name key) ≡ length name + 1 + length key
length_under name key = omega (arith, length-append name (codes "-" ++ key))

pub count-under : (name : Word) (keys : List Word) → length (keys_under name keys) ≡ length keys
count-under name keys = length-map keys (key_under name)

pub some-key-under : (name : Word) (keys : List Word) → not (length keys == 0) ≡ true → not (length (keys_under name keys) == 0) ≡ true
some-key-under name keys h = subst (λ n. not (n == 0) ≡ true) (sym (count-under name keys)) h

pub declared-under : (name : Word) (keys : List Word) → is_namespace name ≡ true → may_be_declared KEYS_LIMIT KEY_BYTES_LIMIT keys ≡ true → AreShort name keys
    → may_be_declared KEYS_LIMIT KEY_BYTES_LIMIT (keys_under name keys) ≡ true
declared-under name keys is declared short =
    let all = keys_under name keys in
    let parts = and_parts (nat_le (length keys) KEYS_LIMIT && list_all (is_name KEY_BYTES_LIMIT) keys) (are_distinct keys) declared in
    let both = and_parts (nat_le (length keys) KEYS_LIMIT) (list_all (is_name KEY_BYTES_LIMIT) keys) parts.0 in
    and_from (nat_le (length all) KEYS_LIMIT && list_all (is_name KEY_BYTES_LIMIT) all) (are_distinct all)
    (and_from (nat_le (length all) KEYS_LIMIT) (list_all (is_name KEY_BYTES_LIMIT) all)
    (subst (λ n. nat_le n KEYS_LIMIT ≡ true) (sym (count-under name keys)) both.0) (names-under name keys is both.1 short))
    (distinct-under name keys ∙ parts.1)

-- ---- keys that become too long

-- where none is, all are short under the name
pub short-under : (name : Word) (keys : List Word) → AreShort name keys → All (λ key. length key ≤ KEY_BYTES_LIMIT) (keys_under name keys)
short-under name [] short = All-nil (λ key. length key ≤ KEY_BYTES_LIMIT)
short-under name (key ∷ keys) short =
    All-cons (λ key. length key ≤ KEY_BYTES_LIMIT) (key_under name key) (keys_under name keys)
    (ltb-false KEY_BYTES_LIMIT (length (key_under name key)) (All-head (IsShort name) key keys short))
    (short-under name keys (All-tail (IsShort name) key keys short))
