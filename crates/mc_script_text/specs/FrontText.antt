-- The text of a script that something else may follow.
use Rattle.std.specs.Prelude.{◌≡◌, ℕ, List, [], ◌∷◌, ◌++◌, length, take}
use Rattle.std.specs.List.{concat}
use Rattle.bstr.specs.Text.{lines_of}
use Rattle.mc_protocol.specs.{declared.lines.Separator.TheVariants.SpaceOrTab, Lines.words_of_text}
use Rattle.mc_script.specs.Script.{Script}
use Rattle.mc_script_text.specs.ScriptText.{SpellsScript, end_line}

-- the line, with its own end, has the word `end` and no other
abbrev pub IsEnd : List ℕ → Type 0
IsEnd line = words_of_text SpaceOrTab line ≡ end_line ∷ []

-- the first n bytes of the text are its lines up to and with a line `end`, and spell the script
pub record SpellsFront (text : List ℕ) (s : Script) (n : ℕ) : Type 0 where
  pub before : List (List ℕ)
  pub last : List ℕ
  pub others : List (List ℕ)
  pub lines : lines_of text ≡ before ++ last ∷ others
  pub ended : IsEnd last
  pub size : n ≡ length (concat (before ++ last ∷ []))
  pub spelled : SpellsScript (take n text) s

-- at most one front of a text spells a script, and only one script
abbrev pub FrontsSpellOneScript : Type 0
FrontsSpellOneScript =
    (text : List ℕ) (s t : Script) (n m : ℕ) → SpellsFront text s n → SpellsFront text t m → (s ≡ t) × (n ≡ m)
