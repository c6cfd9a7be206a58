-- What is asked, one part of the bytes after another.
use Rattle.std.proofs.Common.{◌≡◌, ℕ, ◌+◌, Bool, true, false, List, [], ◌∷◌, ◌++◌, append_assoc, sym, ap, subst, refl, ◌∙◌, arith}
use Rattle.std.proofs.{lemmas.Bool.or_from, lemmas.Bool.or_parts, lemmas.List.Folds.list_any-append}
use Rattle.std.specs.List.{list_any}
use Rattle.mc_reader.specs.{AskEnds.AskEnds, Asks.Asking, Asks.closes}
use Rattle.mc_server.specs.Asked.{Asks, GoesOn, count}

-- what goes on doesn't close
goes_on_first : (asked : Asking) (others : List Asking) → GoesOn (asked ∷ others) → closes asked ≡ false
goes_on_first asked others h = (or_parts (closes asked) (list_any closes others) h).0

goes_on_after : (asked : Asking) (others : List Asking) → GoesOn (asked ∷ others) → GoesOn others
goes_on_after asked others h = (or_parts (closes asked) (list_any closes others) h).1

pub goes_on_twice : (asked others : List Asking) → GoesOn asked → GoesOn others → GoesOn (asked ++ others)
goes_on_twice asked others h k = list_any-append closes asked others ∙ or_from (list_any closes asked) (list_any closes others) h k

none_after : (b : Bool) (others : List Asking) → b ≡ false → b ≡ true → others ≡ []
none_after b others h k = absurd (cc)

-- where more bytes come, more is left
pub asks_longer : (got : List ℕ) (asked : List Asking) (rest more : List ℕ) → GoesOn asked → Asks got asked rest
    → Asks (got ++ more) asked (rest ++ more)
asks_longer got [] rest more on h = ap (λ xs. xs ++ more) h
asks_longer got (asked ∷ others) rest more on h = (
  h.0,
  h.1 ++ more,
  h.2,
  ap (λ xs. xs ++ more) h.3 ∙ append_assoc h.0 h.1 more,
  h.4,
  asks_longer h.1 others rest more (goes_on_after asked others on) h.5,
)

-- one request at the front
pub asks_one : (got front rest : List ℕ) (asked : Asking) → AskEnds front asked → got ≡ front ++ rest → Asks got (asked ∷ []) rest
asks_one got front rest asked ends is = (front, rest, ends, is, λ _. refl, refl)

-- what is left asks this
pub asks_twice : (got : List ℕ) (asked : List Asking) (mid : List ℕ) (others : List Asking) (rest : List ℕ) → GoesOn asked
    → Asks got asked mid → Asks mid others rest → Asks got (asked ++ others) rest
asks_twice got [] mid others rest on h k = subst (λ bytes. Asks bytes others rest) (sym h) k
asks_twice got (asked ∷ more) mid others rest on h k = (
  h.0,
  h.1,
  h.2,
  h.3,
  none_after (closes asked) (more ++ others) (goes_on_first asked more on),
  asks_twice h.1 more mid others rest (goes_on_after asked more on) h.5 k,
)

pub count_twice : (asked others : List Asking) → count (asked ++ others) ≡ count asked + count others
count_twice [] others = omega arith
count_twice (asked ∷ more) others = omega (arith, count_twice more others)
