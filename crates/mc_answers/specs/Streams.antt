-- What a call of a source or a sink does.
use Rattle.std.specs.Prelude.{◌≡◌, ℕ, ◌<◌, ◌≤◌, Bool, true, Option, Some, None, Result, MatchResult, List, [], ◌++◌, length, take}

-- known bytes begin with these, lose them, and stay known; where they are not known, nothing is said
abbrev pub Loses : Option (List ℕ) → Option (List ℕ) → List ℕ → Type 0
Loses None new bytes = Unit {0}
Loses (Some old) None bytes = ⊥
Loses (Some old) (Some new) bytes = old ≡ bytes ++ new

-- known bytes grow by these and stay known; where they are not known, nothing is said
abbrev pub Grows : Option (List ℕ) → Option (List ℕ) → List ℕ → Type 0
Grows None new bytes = Unit {0}
Grows (Some old) None bytes = ⊥
Grows (Some old) (Some new) bytes = new ≡ old ++ bytes

-- no byte is left, where that is known
abbrev pub IsAtEnd : Option (List ℕ) → Type 0
IsAtEnd None = Unit {0}
IsAtEnd (Some bytes) = bytes ≡ []

-- a read gave the first bytes that were left, none only at the end; or it failed, and gave none
abbrev pub Reads : {E : Type 0} → Option (List ℕ) → Option (List ℕ) → Bool → Bool → List ℕ → Result ℕ E → Type 0
Reads old new before after piece result = MatchResult result
    (λ n. (n ≤ length piece) × Loses old new (take n piece) × (n ≡ 0 → 0 < length piece → IsAtEnd new) × (after ≡ before))
    (λ _. Loses old new [] × (after ≡ true))

-- all bytes were written; or the write failed
abbrev pub Writes : {E : Type 0} → Option (List ℕ) → Option (List ℕ) → Bool → Bool → List ℕ → Result (Unit {0}) E → Type 0
Writes old new before after bytes result = MatchResult result
    (λ _. Grows old new bytes × (after ≡ before))
    (λ _. after ≡ true)

-- at most this many bytes were taken
abbrev pub TakesAtMost : ℕ → Option (List ℕ) → Option (List ℕ) → Type 0
TakesAtMost most old new = (taken : List ℕ) × (length taken ≤ most) × Loses old new taken
