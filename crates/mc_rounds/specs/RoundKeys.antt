-- The keys of rounds.
use Rattle.std.specs.Prelude.{ℕ, zero, suc, ◌+◌, Option, Some, None, List, [], ◌∷◌, ◌++◌, codes, decimal}
use Rattle.mc_settings.specs.Namespaces.{key_under}

-- `k<number>`, after the name and a dash if there is a name
abbrev pub key_of : Option (List ℕ) → ℕ → List ℕ
key_of None number = codes "k" ++ decimal number
key_of (Some name) number = key_under name (codes "k" ++ decimal number)

-- this many keys, with the numbers from this one on
abbrev pub keys_from : Option (List ℕ) → ℕ → ℕ → List (List ℕ)
keys_from name number zero = []
keys_from name number (suc count) = key_of name number ∷ keys_from name (number + 1) count

-- this many keys, with the numbers from 1 on
abbrev pub keys_of : Option (List ℕ) → ℕ → List (List ℕ)
keys_of name count = keys_from name 1 count
