-- Pieces that are appended, one after another.
use Rattle.std.specs.Prelude.{◌≡◌, ℕ, ◌+◌, ◌<◌, List, [], ◌∷◌, ◌++◌, length, map, take}
use Rattle.std.specs.List.{concat}
use Rattle.std.proofs.Common.{append_assoc, append-nil, ap, sym, ◌∙◌, get_or}
use Rattle.std.proofs.{lemmas.List.map_more, lemmas.List.Folds.concat-append}

-- the pieces so far, and one more
pub pieces_more : {X : Type 0} (f : X → List ℕ) (xs : List X) (i : ℕ) (d : X) (old mid new : List ℕ) → i < length xs
    → mid ≡ old ++ concat (map f (take i xs)) → new ≡ mid ++ f (get_or xs i d) → new ≡ old ++ concat (map f (take (i + 1) xs))
pieces_more f xs i d old mid new h before more =
    more ∙ ap (λ bs. bs ++ f (get_or xs i d)) before ∙ append_assoc old (concat (map f (take i xs))) (f (get_or xs i d))
    ∙ ap (λ bs. old ++ bs)
    (ap (λ bs. concat (map f (take i xs)) ++ bs) (sym (append-nil (f (get_or xs i d))))
    ∙ sym (concat-append (map f (take i xs)) (f (get_or xs i d) ∷ [])) ∙ ap concat (sym (map_more f xs i d h)))
