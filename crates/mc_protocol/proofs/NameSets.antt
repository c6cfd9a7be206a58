-- A set of names, with one more.
use Rattle.std.proofs.Common.{◌≡◌, ◌||◌, Bool, true, false, List, [], ◌∷◌, ◌++◌, map, refl, sym, ap, ◌∙◌, Bor, Ordering}
use Rattle.std.proofs.{lemmas.List.map-append, lemmas.Map.Text.is_eq-slice_cmp, lemmas.Slice.Eq.bytes_eq-Decides}
use Rattle.std.specs.Ordering.{nat_cmp, is_eq, match_ordering}
use Rattle.std.specs.{List.list_any, Str.bytes_eq, Cmp.Lexicographic.slice_cmp, BTreeSet.insert_key, BTreeMap.is_at}
use Rattle.std.specs.declared.cmp.Ordering.TheVariants as ordering
use Rattle.mc_protocol.specs.Lines.{Word}

pub bytes_same : (xs ys : Word) → bytes_eq xs ys ≡ true → xs ≡ ys
bytes_same xs ys = (bytes_eq-Decides xs ys).0

or_swap : (a b c : Bool) → (a || (b || c)) ≡ (b || (a || c))
or_swap true true c = refl
or_swap true false c = refl
or_swap false true c = refl
or_swap false false c = refl

or_same : (a b : Bool) → (a || b) ≡ (a || (a || b))
or_same true b = refl
or_same false b = refl

-- how borrowed bytes compare, and whether bytes are found among them
abbrev compared : Bor Word → Bor Word → Ordering
compared x y = slice_cmp nat_cmp x.now y.now

abbrev is_found : Word → List (Bor Word) → Bool
is_found q keys = list_any (is_at (λ k. slice_cmp nat_cmp q k.now)) keys

-- the outcome of one comparison on the way to the place of a new key
found_by_order : (o : Ordering) (q : Word) (key x : Bor Word) (xs inserted : List (Bor Word))
    → (is_eq o ≡ true → key.now ≡ x.now) → is_found q inserted ≡ (bytes_eq q key.now || is_found q xs)
    → is_found q (match_ordering o (key ∷ x ∷ xs) (x ∷ xs) (x ∷ inserted)) ≡ (bytes_eq q key.now || is_found q (x ∷ xs))
found_by_order ordering.Less q key x xs inserted same h = ap (λ b. b || is_found q (x ∷ xs)) (is_eq-slice_cmp q key.now)
found_by_order ordering.Equal q key x xs inserted same h =
    let equal = same refl in
    let test = is_eq-slice_cmp q x.now in
    rw (equal, test) (or_same (bytes_eq q x.now) (is_found q xs))
found_by_order ordering.Greater q key x xs inserted same h =
    rw h (or_swap (is_eq (slice_cmp nat_cmp q x.now)) (bytes_eq q key.now) (is_found q xs))

-- what is found once a key was added
found_inserted : (q : Word) (key : Bor Word) (keys : List (Bor Word))
    → is_found q (insert_key compared keys key) ≡ (bytes_eq q key.now || is_found q keys)
found_inserted q key [] = ap (λ b. b || false) (is_eq-slice_cmp q key.now)
found_inserted q key (x ∷ xs) =
    found_by_order (compared key x) q key x xs (insert_key compared xs key)
    (λ e. bytes_same key.now x.now (sym (is_eq-slice_cmp key.now x.now) ∙ e))
    (found_inserted q key xs)

any_push : {X : Type 0} (test : X → Bool) (xs : List X) (x : X) → list_any test (xs ++ x ∷ []) ≡ (test x || list_any test xs)
any_push test [] x = refl
any_push test (y ∷ xs) x = rw (any_push test xs x) (or_swap (test y) (test x) (list_any test xs))

abbrev seen : List (Bor Word) → List Word
seen names = map (λ w. w.now) names

-- the set and the list have the same names
abbrev pub Agrees : List (Bor Word) → List (Bor Word) → Type 0
Agrees keys names = (q : Word) → is_found q keys ≡ list_any (bytes_eq q) (seen names)

-- with one more name
pub agrees_more : (key : Bor Word) (keys more_keys names more : List (Bor Word))
    → more_keys ≡ insert_key compared keys key → more ≡ names ++ key ∷ [] → Agrees keys names → Agrees more_keys more
agrees_more key keys more_keys names more e d h =
    rw (e, d) (λ q.
    found_inserted q key keys ∙ ap (λ b. bytes_eq q key.now || b) (h q)
    ∙ sym (any_push (bytes_eq q) (seen names) key.now) ∙ ap (list_any (bytes_eq q)) (sym (map-append (λ (w : Bor Word). w.now) names (key ∷ []))))
