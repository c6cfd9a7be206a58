-- Lines that each spell an item, one after another, and what follows them. No public contract of this crate cites these: they
-- say of the lines that are left of a text what the text's definition says of all.
use Rattle.std.specs.Prelude.{◌⊎◌, List, [], ◌∷◌, ◌++◌}
use Rattle.mc_protocol.specs.Lines.{Words}

-- how lines spell items: `S` is what is known of the items before a line, and says which may come next
pub record Form (S X : Type 0) : Type 1 where
  pub Spells : Words → X → Type 0
  pub May : S → X → Type 0
  pub next : S → X → S

-- the items before a line are a list
abbrev pub listed : {X : Type 0} → (Words → X → Type 0) → (List X → X → Type 0) → Form (List X) X
listed Spells May = record { Spells = Spells; May = May; next = λ items item. items ++ item ∷ [] }

-- each of the lines spells an item that may come next, until `Then` holds of the lines that are left
abbrev pub Series : {S X : Type 0} → Form S X → (S → List Words → Type 0) → S → List Words → Type 0
Series f Then s [] = Then s []
Series {S} {X} f Then s (line ∷ lines) = Then s (line ∷ lines) ⊎ ((x : X) × f.Spells line x × f.May s x × Series f Then (f.next s x) lines)
