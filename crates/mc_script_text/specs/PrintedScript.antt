-- The text that is printed of a script.
use Rattle.std.specs.Prelude.{◌≡◌, ℕ, ◌+◌, ◌==◌, Option, Some, None, List, [], ◌∷◌, ◌++◌, map, get_or, codes, decimal, if◌then◌else◌}
use Rattle.std.specs.{Int.bit_at, List.flat_map}
use Rattle.mc_protocol.specs.{Fields.fields_of, Words.verb_word, Words.actor_word}
use Rattle.mc_script_text.specs.Values.{Actor, Fields, Class, Sections, Word, Words, Sign, Budget, Label, Argument, Step, Template}
use Rattle.mc_script_text.specs.ScriptText.{SpellsInVersion, SpellsScript, header, names_lines, body_lines}
use Rattle.mc_script_text.specs.{Marks.sign_byte, Marks.jump_word, Marks.bind_word, SectionText.halt_line}
use Rattle.mc_script_text.specs.Values.actor
use Rattle.mc_script_text.specs.Values.fields
use Rattle.mc_script_text.specs.Values.sign
use Rattle.mc_script_text.specs.Values.argument
use Rattle.mc_script_text.specs.Values.step
use Rattle.mc_script.specs.ScriptWords.{body_word, variable_word, label_word}
use Rattle.mc_script.specs.{Script.Names, Script.Section, Script.Script, Script.version_of, WellFormed.label_names, WellFormed.IsScript}

-- ---- lines

-- words, with a space before each
abbrev pub spaced_text : Words → List ℕ
spaced_text words = flat_map (λ word. 32 ∷ word) words

-- a line: its words with one space between them, and LF
abbrev pub line_text : Words → List ℕ
line_text [] = 10 ∷ []
line_text (word ∷ words) = word ++ spaced_text words ++ 10 ∷ []

abbrev pub lines_text : List Words → List ℕ
lines_text lines = flat_map line_text lines

-- ---- a request

-- the name with this index
abbrev pub name_at : List Word → ℕ → Word
name_at names index = get_or names index []

abbrev pub label_at : List Label → ℕ → Word
label_at labels index = name_at (label_names labels) index

-- flags and body, where the verb has them
abbrev pub item_words : Fields → ℕ → List ℕ → Words
item_words fields.Item flags body = decimal flags ∷ body_word body ∷ []
item_words fields.Swap flags body = decimal flags ∷ body_word body ∷ []
item_words _ flags body = []

-- the number, or `$` and the variable's name, where the verb has one
abbrev pub argument_words : Names → Argument → Words
argument_words names argument.Nothing = []
argument_words names (argument.Number n) = decimal n ∷ []
argument_words names (argument.Variable v) = variable_word (name_at names.vars v) ∷ []

-- the flags of the mask, with this sign before each, in the order of their names; the first name has this index
abbrev pub flag_words : Sign → ℕ → ℕ → List Word → Words
flag_words s mask index [] = []
flag_words s mask index (name ∷ names) =
    if bit_at mask index == 1 then (sign_byte s ∷ name) ∷ flag_words s mask (index + 1) names else flag_words s mask (index + 1) names

abbrev pub all_flag_words : List Word → Template → Words
all_flag_words names t =
    flag_words sign.RequireSet t.require_set 0 names ++ flag_words sign.RequireClear t.require_clear 0 names
    ++ flag_words sign.Sets t.sets 0 names ++ flag_words sign.Clears t.clears 0 names

abbrev pub jump_words : List Label → List (Class × ℕ) → Words
jump_words labels jumps = map (λ jump. jump_word jump.0 (label_at labels jump.1)) jumps

abbrev pub bind_words : Names → Option ℕ → Words
bind_words names None = []
bind_words names (Some variable) = bind_word (name_at names.vars variable) ∷ []

-- the marks: `?`, `!`, `+`, `-`, the jumps, and `>`
abbrev pub mark_words : Names → List Label → Template → List (Class × ℕ) → Option ℕ → Words
mark_words names labels t jumps bind = all_flag_words names.flags t ++ jump_words labels jumps ++ bind_words names bind

-- the words between the key and the marks
abbrev pub field_words : Names → Template → Words
field_words names t = item_words (fields_of t.verb) t.flags t.body ++ argument_words names t.argument

abbrev pub request_words : Names → List Label → Template → List (Class × ℕ) → Option ℕ → Words
request_words names labels t jumps bind =
    verb_word t.verb ∷ name_at names.keys t.key ∷ field_words names t ++ mark_words names labels t jumps bind

-- ---- a section

abbrev pub step_words : Names → List Label → Step → Words
step_words names labels (step.Send t jumps bind) = request_words names labels t jumps bind
step_words names labels (step.Bind variable) = codes "bind" ∷ name_at names.vars variable ∷ []
step_words names labels (step.Goto label) = codes "goto" ∷ label_at labels label ∷ []
step_words names labels step.Halt = halt_line

-- the labels of this place, each on a line of its own
abbrev pub label_lines : ℕ → List Label → List Words
label_lines place [] = []
label_lines place (label ∷ labels) =
    if label.place == place then (label_word label.name ∷ []) ∷ label_lines place labels else label_lines place labels

-- the steps from this place on, with the labels of its place before each, and the labels of the end
abbrev pub step_lines : Names → List Label → ℕ → List Step → List Words
step_lines names labels place [] = label_lines place labels
step_lines names labels place (s ∷ steps) =
    label_lines place labels ++ step_words names labels s ∷ step_lines names labels (place + 1) steps

abbrev pub section_lines : Names → Section → List Words
section_lines names s = step_lines names s.labels 0 s.steps

-- ---- the whole text

abbrev pub budget_line : Actor → Budget → Words
budget_line a budget = codes "budget" ∷ actor_word a ∷ decimal budget.requests ∷ decimal budget.bytes ∷ []

-- the lines of each section
abbrev pub bodies_of : Script → Sections (List Words)
bodies_of s = record {
  p = section_lines s.names s.sections.p;
  a = section_lines s.names s.sections.a;
  b = section_lines s.names s.sections.b;
}

abbrev pub script_lines : Script → List Words
script_lines s =
    header (version_of s) ∷ (names_lines s.names
    ++ budget_line actor.P s.sections.p.budget ∷ budget_line actor.A s.sections.a.budget ∷ budget_line actor.B s.sections.b.budget
    ∷ body_lines (bodies_of s))

abbrev pub script_text : Script → List ℕ
script_text s = lines_text (script_lines s)

-- ---- what is printed spells the script

-- a script is spelled by the text that is printed of it, in the version that is written
abbrev pub PrintedScriptsAreSpelled : Type 0
PrintedScriptsAreSpelled = (s : Script) → IsScript s → SpellsInVersion (version_of s) (script_text s) s

-- a script that is read from the text that was printed of one is the same
abbrev pub PrintedScriptsAreReadAgain : Type 0
PrintedScriptsAreReadAgain = (s t : Script) → IsScript s → SpellsScript (script_text s) t → t ≡ s
