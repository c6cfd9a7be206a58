-- What is left of a text, line by line.
use Rattle.std.specs.Prelude.{ℕ, List}
use Rattle.mc_protocol.specs.declared.lines.Separator.{Separator}

-- the lines that are left, without their ends, and how many lines stand before them
pub record TextLines : Type 0 where
  pub separator : Separator
  pub number : ℕ
  pub rest : List (List ℕ)
