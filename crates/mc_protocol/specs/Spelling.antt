-- How lists are spelled.
use Rattle.std.specs.Prelude.{List, [], ◌∷◌}

-- each item spells its value, one for one
abbrev pub SpellEach : {X V : Type 0} → (X → V → Type 0) → List X → List V → Type 0
SpellEach Spells [] [] = Unit {0}
SpellEach Spells [] (value ∷ values) = ⊥
SpellEach Spells (x ∷ xs) [] = ⊥
SpellEach Spells (x ∷ xs) (value ∷ values) = Spells x value × SpellEach Spells xs values
