-- Lists in which nothing stands twice.
use Rattle.std.specs.Prelude.{◌≢◌, List, [], ◌∷◌}

-- x is none of these
abbrev pub IsAbsent : {X : Type 0} → X → List X → Type 0
IsAbsent x [] = Unit {0}
IsAbsent x (y ∷ ys) = (x ≢ y) × IsAbsent x ys

-- no two of these are equal
abbrev pub AreDistinct : {X : Type 0} → List X → Type 0
AreDistinct [] = Unit {0}
AreDistinct (x ∷ xs) = IsAbsent x xs × AreDistinct xs
