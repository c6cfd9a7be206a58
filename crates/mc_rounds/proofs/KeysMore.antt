-- One more key of a round.
use Rattle.std.proofs.Common.{◌≡◌, ℕ, suc, ◌+◌, ◌-◌, ◌<◌, Option, List, [], ◌∷◌, ◌++◌, ap, subst, ◌∙◌, arith, append_assoc}
use Rattle.mc_rounds.specs.RoundKeys.{key_of, keys_from}

-- the keys so far and those that are left are all of them, also with one more
pub keys-more : (name : Option (List ℕ)) (index number count : ℕ) (keys more all : List (List ℕ)) (key : List ℕ) → index < count → number ≡ index
    → key ≡ key_of name (number + 1) → more ≡ keys ++ key ∷ [] → keys ++ keys_from name (index + 1) (count - index) ≡ all
    → more ++ keys_from name (index + 1 + 1) (count - (index + 1)) ≡ all
keys-more name index number count keys more all key below same is pushed kept =
    let n = count - (index + 1) in
    let next : count - index ≡ suc n = omega arith in
    let others = keys_from name (index + 1 + 1) n in
    ap (λ ks. ks ++ others) pushed ∙ append_assoc keys (key ∷ []) others
    ∙ ap (λ k. keys ++ k ∷ others) (is ∙ ap (λ i. key_of name (i + 1)) same)
    ∙ subst (λ m. keys ++ keys_from name (index + 1) m ≡ all) next kept
