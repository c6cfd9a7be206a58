-- Lemmas on what was taken and written.
use Rattle.std.proofs.Common.{◌∙◌, ℕ, List, ◌++◌, Option, Some, None, ap, sym, append_assoc}
use Rattle.mc_answers.specs.Streams.{Loses}

-- what is taken by two calls
pub loses_more : (old : Option (List ℕ)) (mid : Option (List ℕ)) (new : Option (List ℕ)) (xs : List ℕ) (ys : List ℕ)
    → Loses old mid xs → Loses mid new ys → Loses old new (xs ++ ys)
loses_more None mid new xs ys first then = tt
loses_more (Some old) None new xs ys first then = absurd first
loses_more (Some old) (Some mid) None xs ys first then = absurd then
loses_more (Some old) (Some mid) (Some new) xs ys first then = first ∙ (ap (λ rest. xs ++ rest) then ∙ sym (append_assoc xs ys new))
