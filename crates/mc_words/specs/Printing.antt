-- How the words of an item are put together. Only private contracts cite it.
use Rattle.std.specs.Prelude.{ℕ, Option, Some, None, List, [], ◌∷◌, ◌++◌, decimal}
use Rattle.mc_words.specs.Words.{body_word}

-- a space and the number, where there is one
abbrev pub number_text : Option ℕ → List ℕ
number_text None = []
number_text (Some n) = 32 ∷ decimal n

-- flags, a body and, where there is one, a number, each after a space
abbrev pub item_text : ℕ → List ℕ → Option ℕ → List ℕ
item_text flags body number = 32 ∷ decimal flags ++ (32 ∷ body_word body ++ number_text number)
