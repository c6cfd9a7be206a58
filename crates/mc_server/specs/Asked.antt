-- What the bytes of a client ask, one request after another.
use Rattle.std.specs.Prelude.{◌≡◌, ℕ, ◌+◌, true, false, List, [], ◌∷◌, ◌++◌}
use Rattle.std.specs.List.{list_any}
use Rattle.mc_reader.specs.{AskEnds.AskEnds, Asks.Asking, Asks.One, Asks.Many, Asks.Quit, Asks.Refused, Asks.closes}

-- The bytes ask this, one request after another, and these bytes come after it. Nothing is read after what closes.
abbrev pub Asks : List ℕ → List Asking → List ℕ → Type 0
Asks got [] rest = got ≡ rest
Asks got (asked ∷ others) rest =
    (front back : List ℕ) × AskEnds front asked × (got ≡ front ++ back) × (closes asked ≡ true → others ≡ []) × Asks back others rest

-- none of it closes
abbrev pub GoesOn : List Asking → Type 0
GoesOn asked = list_any closes asked ≡ false

-- a retrieval of several keys is one request, and what is refused is none
abbrev pub count_one : Asking → ℕ
count_one (One request noreply) = 1
count_one (Many with_cas keys) = 1
count_one Quit = 0
count_one (Refused refuse) = 0

abbrev pub count : List Asking → ℕ
count [] = 0
count (asked ∷ others) = count_one asked + count others
