-- A part of a text.
use Rattle.std.specs.Prelude.{◌≡◌, ℕ, List, ◌++◌}

-- the part stands somewhere in the text
pub record StandsIn (text part : List ℕ) : Type 0 where
  pub before : List ℕ
  pub after : List ℕ
  pub is : text ≡ before ++ (part ++ after)
