-- The lines of a section.
use Rattle.std.specs.Prelude.{◌≡◌, ℕ, ◌≤◌, true, Some, List, [], ◌∷◌, ◌++◌, map, length, codes}
use Rattle.mc_protocol.specs.{Fields.fields_of, Words.verb_word, Spelling.SpellEach}
use Rattle.mc_script_text.specs.Values.{Fields, Word, Words, Entry, Mark, Label, Argument, Template, Version}
use Rattle.mc_script_text.specs.{Marks.SpellsMark, Marks.may_stand_together, Steps.labels_from, Steps.steps_from}
use Rattle.mc_script_text.specs.Values.fields
use Rattle.mc_script_text.specs.Values.entry
use Rattle.mc_script_text.specs.Values.argument
use Rattle.mc_protocol.specs.{Names.are_distinct, Names.index_of, Decimals.SpellsNumber, Decimals.MAX_32, Decimals.MAX_64}
use Rattle.mc_script.specs.ScriptWords.{is_label_name, is_body, body_word, variable_word, label_word}
use Rattle.mc_script.specs.{Versions.steps_limit, Script.Names, Script.Section, WellFormed.label_names}

-- ---- `L:`

abbrev pub SpellsLabel : Words → Word → Type 0
SpellsLabel line name = (line ≡ label_word name ∷ []) × (is_label_name name ≡ true)

-- ---- a request: its verb, its key, what else the verb has, and the marks

-- `$VAR`
abbrev pub SpellsVariable : Names → Word → ℕ → Type 0
SpellsVariable names word variable =
    (name : Word) × (word ≡ variable_word name) × (index_of names.vars name ≡ Some variable)

-- the amount of an `incr` or `decr`: `NUMBER`, or `$VAR`
abbrev pub SpellsAmount : Names → Word → Argument → Type 0
SpellsAmount names word argument.Nothing = ⊥
SpellsAmount names word (argument.Number n) = SpellsNumber MAX_64 word n
SpellsAmount names word (argument.Variable variable) = SpellsVariable names word variable

-- the cas unique of a `cas`: `$VAR`
abbrev pub SpellsUnique : Names → Word → Argument → Type 0
SpellsUnique names word (argument.Variable variable) = SpellsVariable names word variable
SpellsUnique names word _ = ⊥

-- the words between the key and the marks: none, `FLAGS =BODY`, `FLAGS =BODY $VAR`, or the amount; what the verb lacks
-- is 0, empty or nothing
abbrev pub SpellsFields : Names → Fields → Words → Template → Type 0
SpellsFields names fields.Item words t =
    (flags : Word) × (words ≡ flags ∷ body_word t.body ∷ [])
    × SpellsNumber MAX_32 flags t.flags × (t.argument ≡ argument.Nothing) × (is_body t.body ≡ true)
SpellsFields names fields.Swap words t =
    (flags : Word) × (unique : Word) × (words ≡ flags ∷ body_word t.body ∷ unique ∷ [])
    × SpellsNumber MAX_32 flags t.flags × SpellsUnique names unique t.argument × (is_body t.body ≡ true)
SpellsFields names fields.Amount words t =
    (amount : Word) × (words ≡ amount ∷ []) × (t.flags ≡ 0) × SpellsAmount names amount t.argument × (t.body ≡ [])
SpellsFields names _ words t = (words ≡ []) × (t.flags ≡ 0) × (t.argument ≡ argument.Nothing) × (t.body ≡ [])

-- no flag is needed or changed
pub record HasNoFlags (t : Template) : Type 0 where
  pub require_set : t.require_set ≡ 0
  pub require_clear : t.require_clear ≡ 0
  pub sets : t.sets ≡ 0
  pub clears : t.clears ≡ 0

pub record SpellsRequest (names : Names) (line : Words) (t : Template) (marks : List Mark) : Type 0 where
  pub key : Word
  pub fields : Words
  pub others : Words
  pub words : line ≡ verb_word t.verb ∷ key ∷ fields ++ others
  pub declared : index_of names.keys key ≡ Some t.key
  pub spelled : SpellsFields names (fields_of t.verb) fields t
  pub bare : HasNoFlags t
  pub marked : SpellEach (SpellsMark names) others marks
  pub together : may_stand_together t.verb marks ≡ true

-- ---- `bind VAR`

abbrev pub SpellsBind : Names → Words → ℕ → Type 0
SpellsBind names line variable =
    (name : Word) × (line ≡ codes "bind" ∷ name ∷ []) × (index_of names.vars name ≡ Some variable)

-- ---- `goto L`, and `halt`

abbrev pub SpellsGoto : Words → Word → Type 0
SpellsGoto line label = line ≡ codes "goto" ∷ label ∷ []

abbrev pub halt_line : Words
halt_line = codes "halt" ∷ []

-- ---- the lines of a section

abbrev pub SpellsEntry : Names → Words → Entry → Type 0
SpellsEntry names line (entry.Label name) = SpellsLabel line name
SpellsEntry names line (entry.Send t marks) = SpellsRequest names line t marks
SpellsEntry names line (entry.Bind variable) = SpellsBind names line variable
SpellsEntry names line (entry.Goto label) = SpellsGoto line label
SpellsEntry names line entry.Halt = line ≡ halt_line

-- the lines of a section in a text of this version: each is a label or a step; the labels differ, and each that is used
-- stands on a later line of the section
pub record SpellsSection (v : Version) (names : Names) (lines : List Words) (s : Section) : Type 0 where
  pub entries : List Entry
  pub spelled : SpellEach (SpellsEntry names) lines entries
  pub labels : s.labels ≡ labels_from 0 entries
  pub distinct : are_distinct (label_names s.labels) ≡ true
  pub steps : steps_from s.labels 0 entries ≡ Some s.steps
  pub few : length s.steps ≤ steps_limit v
