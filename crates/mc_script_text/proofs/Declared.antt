-- Names that were read may be declared.
use Rattle.std.proofs.Common.{◌≡◌, ℕ, ◌≤◌, ◌==◌, nat_le, Bool, cond, true, false, not, Some, List, [], ◌∷◌, length, drop, codes, refl, ap, subst, arith}
use Rattle.std.proofs.lemmas.Bool.{and_parts, leb-true, le-leb}
use Rattle.std.specs.List.{list_all}
use Rattle.mc_protocol.specs.{Names.is_name, Names.are_distinct, Lines.begins_with}
use Rattle.mc_script_text.specs.Values.{KEYS_LIMIT, KEY_BYTES_LIMIT, Word, Words, NAME_BYTES_LIMIT, FLAGS_LIMIT, STEPS_LIMIT, Version}
use Rattle.mc_script_text.specs.Reading.{names_in, keys_in, line_in, optional_in}
use Rattle.mc_script_text.specs.Values.version
use Rattle.mc_script.specs.{Versions.flags_limit, Versions.steps_limit, Versions.has_room, Versions.least_version, Script.may_be_declared}
use Rattle.mc_script_text.proofs.{Lists.three, Lists.some-first, Outcomes.then-some, Outcomes.cond-some, Outcomes.some-same, Outcomes.only-then}

pub names-declared : (limit bytes : ℕ) (words names : List Word) → names_in limit bytes words ≡ Some names
    → (not (length names == 0) ≡ true) × (may_be_declared limit bytes names ≡ true) × (words ≡ names)
unfolding names_in
names-declared limit bytes [] names h = absurd (cc)
names-declared limit bytes (word ∷ words) names h =
    let p = only-then (may_be_declared limit bytes (word ∷ words)) (Some (word ∷ words)) names h in
    let e = some-same (word ∷ words) names p.1 in
    let P : List Word → Type 0 = λ ns. not (length ns == 0) ≡ true in
    let Q : List Word → Type 0 = λ ns. may_be_declared limit bytes ns ≡ true in
    (subst P e (some-first word words), subst Q e p.0, e)

pub keys-declared : (lines : List Words) (keys : List Word) (rest : List Words) → keys_in lines ≡ Some (keys, rest)
    → (not (length keys == 0) ≡ true) × (may_be_declared KEYS_LIMIT KEY_BYTES_LIMIT keys ≡ true)
keys-declared [] keys rest h = absurd (cc)
keys-declared (line ∷ lines) keys rest h =
    let p = only-then (begins_with (codes "keys") line) _ (keys, rest) h in
    let q = then-some (names_in KEYS_LIMIT KEY_BYTES_LIMIT (drop 1 line)) _ _ p.1 in
    let d = names-declared KEYS_LIMIT KEY_BYTES_LIMIT (drop 1 line) q.0 q.1 in
    let e : q.0 ≡ keys = ap (λ x. x.0) (some-same (q.0, lines) (keys, rest) q.2) in
    let P : List Word → Type 0 = λ ns. not (length ns == 0) ≡ true in
    let Q : List Word → Type 0 = λ ns. may_be_declared KEYS_LIMIT KEY_BYTES_LIMIT ns ≡ true in
    (subst P e d.0, subst Q e d.1)

pub optional-declared : (word : Word) (limit : ℕ) (line : Words) (lines : List Words) (names : List Word) (next : Words) (rest : List Words)
    → may_be_declared limit NAME_BYTES_LIMIT [] ≡ true → optional_in word limit line lines ≡ Some (names, next, rest)
    → may_be_declared limit NAME_BYTES_LIMIT names ≡ true
optional-declared word limit line lines names next rest none h =
    let Q : List Word → Type 0 = λ ns. may_be_declared limit NAME_BYTES_LIMIT ns ≡ true in
    cond-some (begins_with word line) _ _ (names, next, rest) (may_be_declared limit NAME_BYTES_LIMIT names ≡ true) h
    (λ g.
    let q = then-some (names_in limit NAME_BYTES_LIMIT (drop 1 line)) _ _ g in
    let l = then-some (line_in lines) _ _ q.2 in
    subst Q (ap (λ t. t.0) (some-same (q.0, l.0.0, l.0.1) (names, next, rest) l.2)) (names-declared limit NAME_BYTES_LIMIT (drop 1 line) q.0 q.1).1)
    (λ g. subst Q (ap (λ t. t.0) (some-same ([], line, lines) (names, next, rest) g)) none)

-- ---- limits

pub declared-few : (limit bytes : ℕ) (names : List Word) → may_be_declared limit bytes names ≡ true → length names ≤ limit
declared-few limit bytes names h =
    leb-true (length names) limit (three (nat_le (length names) limit) (list_all (is_name bytes) names) (are_distinct names) h).0

-- declared within one limit, and so within another one that their number keeps
pub declared-within : (limit other bytes : ℕ) (names : List Word) → length names ≤ limit → may_be_declared other bytes names ≡ true
    → may_be_declared limit bytes names ≡ true
declared-within limit other bytes names few h =
    let (within, named, distinct) = three (nat_le (length names) other) (list_all (is_name bytes) names) (are_distinct names) h in
    rw (le-leb (length names) limit few, named, distinct) refl

-- a version's limits are within those of all
pub flags-within : (v : Version) → flags_limit v ≤ FLAGS_LIMIT
flags-within version.One = omega arith
flags-within version.Two = omega arith

pub steps-within : (v : Version) → steps_limit v ≤ STEPS_LIMIT
steps-within version.One = omega arith
steps-within version.Two = omega arith

pub none-declared : (v : Version) → may_be_declared (flags_limit v) NAME_BYTES_LIMIT [] ≡ true
none-declared version.One = refl
none-declared version.Two = refl

room-of : (b : Bool) (flags longest : ℕ) → has_room version.One flags longest ≡ b → flags ≤ FLAGS_LIMIT → longest ≤ STEPS_LIMIT
    → (flags ≤ flags_limit (cond b version.One version.Two)) × (longest ≤ steps_limit (cond b version.One version.Two))
room-of true flags longest h f l =
    let p = and_parts (nat_le flags (flags_limit version.One)) (nat_le longest (steps_limit version.One)) h in
    (leb-true flags (flags_limit version.One) p.0, leb-true longest (steps_limit version.One) p.1)
room-of false flags longest h f l = (f, l)

-- what keeps the limits of all keeps those of the version that is written of it
pub least-has-room : (flags longest : ℕ) → flags ≤ FLAGS_LIMIT → longest ≤ STEPS_LIMIT
    → (flags ≤ flags_limit (least_version flags longest)) × (longest ≤ steps_limit (least_version flags longest))
least-has-room flags longest f l = room-of (has_room version.One flags longest) flags longest refl f l
