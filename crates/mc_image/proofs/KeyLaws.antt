-- Keys: what is read was written, and may be declared; and what was written is read again.
use Rattle.std.proofs.Common.{◌≡◌, ℕ, ◌≤◌, ◌==◌, true, false, leb, not, ◌&&◌, Some, List, [], ◌∷◌, ◌++◌, length, refl, sym, subst, ◌∙◌, arith}
use Rattle.std.proofs.lemmas.Bool.{leb-true, le-leb, not-true, not_from_false, false_from_ne_true, both_ways, or_parts, or_from, and_parts, and_from}
use Rattle.std.proofs.{lemmas.Bool.Decides.nat_tests, lemmas.List.Folds.list_all-append, lemmas.Slice.Eq.bytes_eq-Decides}
use Rattle.std.specs.{List.list_all, List.list_any, Str.bytes_eq}
use Rattle.mc_protocol.specs.declared.limits.TheConstants.{KEYS_LIMIT, KEY_BYTES_LIMIT}
use Rattle.mc_protocol.specs.{Names.is_name, Names.is_new, Names.are_distinct, Names.are_name_bytes, Lines.Word}
use Rattle.mc_script.specs.Script.{may_be_declared}
use Rattle.mc_image.specs.{Image.with_length, Image.with_count, ImageReading.bytes_in, ImageReading.small_in, ImageReading.key_in, ImageReading.keys_in}
use Rattle.mc_image.proofs.FieldLaws.{then-some, only-then, some-same, IsBytes, Takes, Takes-then, small_takes, small_again, bytes_take, bytes_again}
use Rattle.mc_image.proofs.ItemLaws.{IsItem, counted_takes, counted_again}

-- ---- names that differ

differ-swap : (x y : Word) → bytes_eq x y ≡ false → bytes_eq y x ≡ false
differ-swap x y e =
    false_from_ne_true (bytes_eq y x) (λ same. both_ways (bytes_eq x y) e ((bytes_eq-Decides x y).1 (sym ((bytes_eq-Decides y x).0 same))))

new-parts : (x : Word) (names : List Word) (name : Word) → is_new (x ∷ names) name ≡ true → (bytes_eq name x ≡ false) × (is_new names name ≡ true)
new-parts x names name e =
    let p = or_parts (bytes_eq name x) (list_any (bytes_eq name) names) (not-true _ e) in
    (p.0, not_from_false _ p.1)

new-cons : (x : Word) (names : List Word) (name : Word) → bytes_eq name x ≡ false → is_new names name ≡ true → is_new (x ∷ names) name ≡ true
new-cons x names name e n = not_from_false _ (or_from (bytes_eq name x) (list_any (bytes_eq name) names) e (not-true _ n))

new-push : (names : List Word) (name x : Word) → is_new names x ≡ true → bytes_eq x name ≡ false → is_new (names ++ name ∷ []) x ≡ true
new-push [] name x n e = new-cons name [] x e refl
new-push (y ∷ names) name x n e =
    let p = new-parts y names x n in
    new-cons y (names ++ name ∷ []) x p.0 (new-push names name x p.1 e)

new-middle : (names : List Word) (name : Word) (others : List Word) (x : Word) → is_new (names ++ name ∷ others) x ≡ true → bytes_eq x name ≡ false
new-middle [] name others x n = (new-parts name others x n).0
new-middle (y ∷ names) name others x n = new-middle names name others x (new-parts y (names ++ name ∷ others) x n).1

distinct-push : (names : List Word) (name : Word) → are_distinct names ≡ true → is_new names name ≡ true → are_distinct (names ++ name ∷ []) ≡ true
distinct-push [] name d n = refl
distinct-push (x ∷ names) name d n =
    let p = and_parts (is_new names x) (are_distinct names) d in
    let q = new-parts x names name n in
    and_from (is_new (names ++ name ∷ []) x) (are_distinct (names ++ name ∷ [])) (new-push names name x p.0 (differ-swap name x q.0))
    (distinct-push names name p.1 q.1)

distinct-new : (names : List Word) (name : Word) (others : List Word) → are_distinct (names ++ name ∷ others) ≡ true → is_new names name ≡ true
distinct-new [] name others d = refl
distinct-new (x ∷ names) name others d =
    let p = and_parts (is_new (names ++ name ∷ others) x) (are_distinct (names ++ name ∷ others)) d in
    new-cons x names name (differ-swap x name (new-middle names name others x p.0)) (distinct-new names name others p.1)

-- ---- one key

abbrev AreKeys : List Word → Type 0
AreKeys keys = (list_all (is_name KEY_BYTES_LIMIT) keys ≡ true) × (are_distinct keys ≡ true)

keys-push : (keys : List Word) (key : Word) → AreKeys keys → is_name KEY_BYTES_LIMIT key ≡ true → is_new keys key ≡ true → AreKeys (keys ++ key ∷ [])
keys-push keys key p named new =
    (list_all-append (is_name KEY_BYTES_LIMIT) keys (key ∷ []) ∙ and_from _ _ p.0 (and_from _ _ named refl), distinct-push keys key p.1 new)

key-named : (keys : List Word) (key : Word) (others : List Word) → AreKeys (keys ++ key ∷ others) → is_name KEY_BYTES_LIMIT key ≡ true
key-named keys key others p =
    let both = and_parts _ _ (sym (list_all-append (is_name KEY_BYTES_LIMIT) keys (key ∷ others)) ∙ p.0) in
    (and_parts (is_name KEY_BYTES_LIMIT key) (list_all (is_name KEY_BYTES_LIMIT) others) both.1).0

some-byte : (word : Word) → not (length word == 0) ≡ true → 1 ≤ length word
some-byte [] e = absurd (cc)
some-byte (byte ∷ word) e = omega arith

named-length : (key : Word) → is_name KEY_BYTES_LIMIT key ≡ true → (1 ≤ length key) × (length key ≤ KEY_BYTES_LIMIT)
named-length key e =
    let p = and_parts (not (length key == 0) && leb (length key) KEY_BYTES_LIMIT) (are_name_bytes key) e in
    let q = and_parts (not (length key == 0)) (leb (length key) KEY_BYTES_LIMIT) p.0 in
    (some-byte key q.0, leb-true _ _ q.1)

key_takes : (keys : List Word) (bytes : List ℕ) (x : Word × List ℕ) → IsBytes bytes → AreKeys keys → key_in keys bytes ≡ Some x
    → Takes bytes (with_length x.0) x.1 × AreKeys (keys ++ x.0 ∷ [])
unfolding key_in
key_takes keys bytes x fits p e =
    let n = then-some (small_in 1 KEY_BYTES_LIMIT bytes) _ x e in
    let k = then-some (bytes_in n.0.0 n.0.1) _ x n.2 in
    let g = only-then (is_name KEY_BYTES_LIMIT k.0.0 && is_new keys k.0.0) (Some k.0) x k.2 in
    let h = and_parts (is_name KEY_BYTES_LIMIT k.0.0) (is_new keys k.0.0) g.0 in
    let t = small_takes 1 KEY_BYTES_LIMIT bytes n.0 fits n.1 in
    let b = bytes_take n.0.0 n.0.1 k.0 t.0.fits k.1 in
    let taken = subst (λ (i : ℕ). Takes bytes (i ∷ k.0.0) k.0.1) (sym b.1) (Takes-then bytes (n.0.0 ∷ []) n.0.1 k.0.0 k.0.1 t.0 b.0) in
    subst (λ (y : Word × List ℕ). Takes bytes (with_length y.0) y.1 × AreKeys (keys ++ y.0 ∷ [])) (some-same k.0 x g.1) (taken, keys-push keys k.0.0 p h.0 h.1)

key_again : (keys : List Word) (key : Word) (others : List Word) (rest : List ℕ) → AreKeys (keys ++ key ∷ others)
    → key_in keys (with_length key ++ rest) ≡ Some (key, rest)
unfolding key_in
key_again keys key others rest p =
    let named = key-named keys key others p in
    let new = distinct-new keys key others p.1 in
    let within = named-length key named in
    rw (small_again 1 KEY_BYTES_LIMIT (length key) (key ++ rest) within.0 within.1, bytes_again (length key) key rest refl, named, new) refl

keys_law : IsItem key_in with_length AreKeys
keys_law = record { takes = key_takes; again = key_again }

-- ---- all keys

some-key : (keys : List Word) → 1 ≤ length keys → not (length keys == 0) ≡ true
some-key [] e = absurd (omega arith)
some-key (key ∷ keys) e = grind (arith, nat_tests)

one-key : (keys : List Word) → not (length keys == 0) ≡ true → 1 ≤ length keys
one-key [] e = absurd (cc)
one-key (key ∷ keys) e = omega arith

pub keys_take : (bytes : List ℕ) (x : List Word × List ℕ) → IsBytes bytes → keys_in bytes ≡ Some x
    → Takes bytes (with_count with_length x.0) x.1 × (not (length x.0 == 0) ≡ true) × (may_be_declared KEYS_LIMIT KEY_BYTES_LIMIT x.0 ≡ true)
unfolding keys_in
keys_take bytes x fits e =
    let t = counted_takes key_in with_length AreKeys keys_law 1 KEYS_LIMIT bytes x fits (refl, refl) e in
    (t.0, some-key x.0 t.1, and_from _ _ (and_from (leb (length x.0) KEYS_LIMIT) _ (le-leb _ _ t.2) t.3.0) t.3.1)

pub keys_again : (keys : List Word) (rest : List ℕ) → not (length keys == 0) ≡ true → may_be_declared KEYS_LIMIT KEY_BYTES_LIMIT keys ≡ true
    → keys_in (with_count with_length keys ++ rest) ≡ Some (keys, rest)
unfolding keys_in
keys_again keys rest some p =
    let both = and_parts (leb (length keys) KEYS_LIMIT && list_all (is_name KEY_BYTES_LIMIT) keys) (are_distinct keys) p in
    let each = and_parts (leb (length keys) KEYS_LIMIT) (list_all (is_name KEY_BYTES_LIMIT) keys) both.0 in
    counted_again key_in with_length AreKeys keys_law 1 KEYS_LIMIT keys rest (each.1, both.1) (one-key keys some) (leb-true _ _ each.0)
