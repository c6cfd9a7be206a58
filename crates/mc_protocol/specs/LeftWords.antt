-- What is left of a text, as the words of its lines.
use Rattle.std.specs.Prelude.{ℕ, List}

-- a line that counts: its number in the text, and its words
pub record NumberedWords : Type 0 where
  pub number : ℕ
  pub words : List (List ℕ)

-- the words of each line that is left and counts, and the numbers of these lines; the number of the last line that was
-- taken, and how many lines the whole text has
pub record LeftWords : Type 0 where
  pub words : List (List (List ℕ))
  pub numbers : List ℕ
  pub number : ℕ
  pub line_count : ℕ
