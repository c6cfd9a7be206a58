-- The text of a script.
use Rattle.std.specs.Prelude.{◌≡◌, ℕ, ◌≤◌, List, [], ◌∷◌, ◌++◌, length, codes}
use Rattle.mc_script_text.specs.Values.{Actor, Sections, SpaceOrTab, Word, Words, REQUESTS_LIMIT, REQUEST_BYTES_LIMIT, Budget, Version}
use Rattle.mc_script_text.specs.SectionText.{SpellsSection}
use Rattle.mc_script_text.specs.Values.actor
use Rattle.mc_protocol.specs.{Lines.words_of_text, Decimals.SpellsNumber, Words.actor_word}
use Rattle.mc_protocol.specs.Sections as sections
use Rattle.mc_script.specs.{Versions.version_word, Versions.flags_limit, Script.Names, Script.Script, Script.AreDeclared, Script.section_of}

-- ---- declarations

-- a line for these names, where there are any
abbrev pub names_line : Word → List Word → List Words
names_line word [] = []
names_line word (name ∷ names) = (word ∷ name ∷ names) ∷ []

-- `keys`, then `flags` and `vars` where there are any
abbrev pub names_lines : Names → List Words
names_lines names =
    names_line (codes "keys") names.keys ++ names_line (codes "flags") names.flags ++ names_line (codes "vars") names.vars

-- `budget`, the section, the most requests, and their most bytes
abbrev pub SpellsBudget : Actor → Words → Budget → Type 0
SpellsBudget actor line budget =
    (requests : Word) × (bytes : Word) × (line ≡ codes "budget" ∷ actor_word actor ∷ requests ∷ bytes ∷ [])
    × SpellsNumber REQUESTS_LIMIT requests budget.requests × SpellsNumber REQUEST_BYTES_LIMIT bytes budget.bytes

-- ---- the whole text

-- `script`, and the version
abbrev pub header : Version → Words
header v = codes "script" ∷ version_word v ∷ []

-- the line before the lines of a section
abbrev pub section_line : Actor → Words
section_line actor = actor_word actor ∷ []

abbrev pub end_line : Words
end_line = codes "end" ∷ []

-- the lines of the three sections, each after a line that names it, and `end`
abbrev pub body_lines : Sections (List Words) → List Words
body_lines bodies =
    section_line actor.P ∷ (bodies.p ++ section_line actor.A ∷ (bodies.a ++ section_line actor.B ∷ (bodies.b ++ end_line ∷ [])))

-- a text of this version is its header, the declarations, the three budgets, and the sections, within its limits
pub record SpellsInVersion (v : Version) (text : List ℕ) (s : Script) : Type 0 where
  pub budgets : Sections Words
  pub bodies : Sections (List Words)
  pub lines : words_of_text SpaceOrTab text
      ≡ header v ∷ (names_lines s.names ++ budgets.p ∷ budgets.a ∷ budgets.b ∷ body_lines bodies)
  pub declared : AreDeclared s.names
  pub few_flags : length s.names.flags ≤ flags_limit v
  pub allowed : (actor : Actor) → SpellsBudget actor (sections.section_of budgets actor) (section_of s actor).budget
  pub spelled : (actor : Actor) → SpellsSection v s.names (sections.section_of bodies actor) (section_of s actor)

-- the text spells the script in one version or the other
abbrev pub SpellsScript : List ℕ → Script → Type 0
SpellsScript text s = (v : Version) × SpellsInVersion v text s

-- a text spells at most one script
abbrev pub SpellsOneScript : Type 0
SpellsOneScript = (text : List ℕ) (s t : Script) → SpellsScript text s → SpellsScript text t → s ≡ t
