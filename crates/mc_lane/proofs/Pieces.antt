-- Pieces that are joined, and what is read of them.
use Rattle.std.specs.Prelude.{◌≡◌, ℕ, ◌+◌, ◌-◌, ◌<◌, ◌≤◌, List, [], ◌∷◌, ◌++◌, length, map, take, drop}
use Rattle.std.specs.List.{concat}
use Rattle.std.proofs.Common.{arith, append_assoc, ap, sym, ◌∙◌, get_or}
use Rattle.std.proofs.{Math.Seq.take-add, lemmas.Grind.common_steps, lemmas.List.drop-map, lemmas.List.drop_more}
use Rattle.mc_lane.specs.MemoryStreams.{ends_from}

-- what is left from one piece on begins with that piece
pub pieces_from : {X : Type 0} (f : X → List ℕ) (xs : List X) (i : ℕ) (d : X) → i < length xs
    → drop i (map f xs) ≡ f (get_or xs i d) ∷ drop (i + 1) (map f xs)
pieces_from f xs i d h = drop-map f i xs ∙ ap (map f) (drop_more xs i d h) ∙ ap (λ ps. f (get_or xs i d) ∷ ps) (sym (drop-map f (i + 1) xs))

-- the bytes, with one more piece
pub bytes_more : {X : Type 0} (f : X → List ℕ) (xs : List X) (i : ℕ) (d : X) (old new all : List ℕ) → i < length xs
    → old ++ concat (drop i (map f xs)) ≡ all → new ≡ old ++ f (get_or xs i d) → new ++ concat (drop (i + 1) (map f xs)) ≡ all
bytes_more f xs i d old new all h before more =
    ap (λ bs. bs ++ concat (drop (i + 1) (map f xs))) more ∙ append_assoc old (f (get_or xs i d)) (concat (drop (i + 1) (map f xs)))
    ∙ ap (λ ps. old ++ concat ps) (sym (pieces_from f xs i d h)) ∙ before

-- the ends, with that of one more piece
pub ends_more : {X : Type 0} (f : X → List ℕ) (xs : List X) (i : ℕ) (d : X) (old new all : List ℕ) (start end : ℕ) → i < length xs
    → old ++ ends_from start (drop i (map f xs)) ≡ all → end ≡ start + length (f (get_or xs i d)) → new ≡ old ++ end ∷ []
    → new ++ ends_from end (drop (i + 1) (map f xs)) ≡ all
ends_more f xs i d old new all start end h before at more =
    ap (λ es. es ++ ends_from end (drop (i + 1) (map f xs))) more ∙ append_assoc old (end ∷ []) (ends_from end (drop (i + 1) (map f xs)))
    ∙ ap (λ (e : ℕ). old ++ (e ∷ ends_from e (drop (i + 1) (map f xs)))) at
    ∙ ap (λ ps. old ++ ends_from start ps) (sym (pieces_from f xs i d h)) ∙ before

-- what a read puts at the front of a buffer comes after what was read before
pub read_on : (replies piece rest : List ℕ) (given count : ℕ) → given + count ≤ length replies
    → piece ≡ take (given + count - given) (drop given replies)
    → take (given + count) replies ≡ take given replies ++ take count (piece ++ rest)
read_on replies piece rest given count h is =
    take-add given count replies ∙ ap (λ bs. take given replies ++ bs) (grind (arith, common_steps))

-- nothing more is counted
pub none_more : (n : ℕ) → n ≡ n + 0
none_more n = omega arith
