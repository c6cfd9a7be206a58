-- Names that differ, and whether one more may be declared after others.
use Rattle.std.proofs.Common.{◌≡◌, ◌≢◌, Bor, Some, None, ℕ, ◌+◌, ◌<◌, true, false, Bool, ◌&&◌, nat_le, nat_lt, List, [], ◌∷◌, ◌++◌, length}
use Rattle.std.proofs.Common.{get_or, take, drop, map, refl, sym, ap, subst, ◌∙◌, arith, length-append, append_assoc}
use Rattle.std.proofs.lemmas.Bool.{le-leb, leb-true, not-true, not_from_false, false_from_ne_true, both_ways, or_parts, and_parts, and_from}
use Rattle.std.proofs.lemmas.List.{take-append-drop, map-append, drop_more}
use Rattle.std.proofs.{lemmas.Bool.Decides.nat_tests, lemmas.List.Folds.list_all-append, lemmas.List.Folds.list_any-append}
use Rattle.std.specs.{List.list_all, List.list_any, Str.bytes_eq}
use Rattle.mc_protocol.specs.{Lines.Word, Names.is_name, Names.is_new, Names.are_distinct}
use Rattle.mc_script_text.specs.Reading.{may_follow_names, names_in}
use Rattle.mc_script.specs.Script.{may_be_declared}
use Rattle.mc_script_text.proofs.Lists.{three, from-three, any-push, regroup, bytes-swap}

-- names that differ, and one more that is new beside them
distinct-push : (names : List Word) (name : Word) → are_distinct (names ++ name ∷ []) ≡ (are_distinct names && is_new names name)
distinct-push [] name = refl
distinct-push (x ∷ names) name =
    rw (any-push (bytes_eq x) names name, distinct-push names name, bytes-swap x name)
    (regroup (list_any (bytes_eq x) names) (bytes_eq name x) (are_distinct names) (list_any (bytes_eq name) names))

distinct-front : (names others : List Word) → are_distinct (names ++ others) ≡ true → are_distinct names ≡ true
distinct-front [] others d = refl
distinct-front (x ∷ names) others d =
    let p = and_parts (is_new (names ++ others) x) (are_distinct (names ++ others)) d in
    let q = or_parts (list_any (bytes_eq x) names) (list_any (bytes_eq x) others)
    (sym (list_any-append (bytes_eq x) names others) ∙ not-true (list_any (bytes_eq x) (names ++ others)) p.0) in
    and_from (is_new names x) (are_distinct names) (not_from_false (list_any (bytes_eq x) names) q.0) (distinct-front names others p.1)

-- ---- names that are declared together

one-more : (n limit : ℕ) (named one distinct new : Bool) → (nat_le (n + 1) limit && (named && (one && true)) && (distinct && new))
    ≡ ((nat_le n limit && named && distinct) && (one && new && nat_lt n limit))
one-more n limit named one distinct new = grind (arith, nat_tests)

pub declared_push : (limit bytes : ℕ) (names : List Word) (name : Word)
    → may_be_declared limit bytes (names ++ name ∷ []) ≡ (may_be_declared limit bytes names && may_follow_names limit bytes names name)
declared_push limit bytes names name =
    let long : length (names ++ name ∷ []) ≡ length names + 1 = omega (arith, length-append names (name ∷ [])) in
    rw (long, list_all-append (is_name bytes) names (name ∷ []), distinct-push names name)
    (one-more (length names) limit (list_all (is_name bytes) names) (is_name bytes name) (are_distinct names) (is_new names name))

declared-front : (limit bytes : ℕ) (names others : List Word) → may_be_declared limit bytes (names ++ others) ≡ true → may_be_declared limit bytes names ≡ true
declared-front limit bytes names others d =
    let all = names ++ others in
    let (few, named, distinct) = three (nat_le (length all) limit) (list_all (is_name bytes) all) (are_distinct all) d in
    let within = leb-true (length (names ++ others)) limit few in
    from-three (nat_le (length names) limit) (list_all (is_name bytes) names) (are_distinct names)
    (le-leb (length names) limit (omega (arith, within, length-append names others)))
    (and_parts (list_all (is_name bytes) names) (list_all (is_name bytes) others) (sym (list_all-append (is_name bytes) names others) ∙ named)).0
    (distinct-front names others distinct)

-- those that are declared follow those before them
pub undeclared : (limit bytes : ℕ) (names : List Word) (name : Word) (others : List Word) → may_follow_names limit bytes names name ≡ false
    → may_be_declared limit bytes (names ++ name ∷ others) ≡ false
undeclared limit bytes names name others f =
    false_from_ne_true (may_be_declared limit bytes (names ++ name ∷ others)) (λ d.
    let all = ap (may_be_declared limit bytes) (append_assoc names (name ∷ []) others) ∙ d in
    let front = sym (declared_push limit bytes names name) ∙ declared-front limit bytes (names ++ name ∷ []) others all in
    both_ways (may_follow_names limit bytes names name) f (and_parts (may_be_declared limit bytes names) (may_follow_names limit bytes names name) front).1)

-- ---- the words of a line

-- the names of a whole line
pub names_some : (limit bytes : ℕ) (names : List Word) (words : List (Bor (List ℕ))) → length words ≢ 0 → names ≡ map (λ w. w.now) words
    → may_be_declared limit bytes names ≡ true → names_in limit bytes (map (λ w. w.now) words) ≡ Some names
unfolding names_in
names_some limit bytes [] [] some same d = absurd (some refl)
names_some limit bytes [] (word ∷ words) some same d = absurd (cc)
names_some limit bytes (name ∷ names) words some same d =
    let P : List Word → Type 0 = λ all. names_in limit bytes all ≡ Some (name ∷ names) in
    subst P same (rw d refl)

names-none : (limit bytes : ℕ) (names : List Word) (name : Word) (others : List Word) → may_follow_names limit bytes names name ≡ false
    → names_in limit bytes (names ++ name ∷ others) ≡ None
unfolding names_in
names-none limit bytes [] name others f = rw (undeclared limit bytes [] name others f) refl
names-none limit bytes (x ∷ names) name others f = rw (undeclared limit bytes (x ∷ names) name others f) refl

-- the words up to this one, it, and those after it
split-words : (words : List (Bor (List ℕ))) (k : ℕ) (d : Bor (List ℕ)) → k < length words
    → map (λ w. w.now) words ≡ map (λ w. w.now) (take k words) ++ (get_or words k d).now ∷ map (λ w. w.now) (drop (k + 1) words)
split-words words k d below =
    let now : Bor (List ℕ) → Word = λ w. w.now in
    sym (ap (map now) (take-append-drop k words)) ∙ map-append now (take k words) (drop k words)
    ∙ ap (λ rest. map now (take k words) ++ map now rest) (drop_more words k d below)

-- a word that may not be declared after those before it
pub names_stopped : (limit bytes : ℕ) (names : List Word) (words : List (Bor (List ℕ))) (k : ℕ) (d : Bor (List ℕ)) → k < length words
    → names ≡ map (λ w. w.now) (take k words) → may_follow_names limit bytes names (get_or words k d).now ≡ false
    → names_in limit bytes (map (λ w. w.now) words) ≡ None
names_stopped limit bytes names words k d below same stop =
    rw (split-words words k d below, ← same) (names-none limit bytes names (get_or words k d).now (map (λ w. w.now) (drop (k + 1) words)) stop)
