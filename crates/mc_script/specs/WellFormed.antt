-- Which values are scripts, whatever text spells them. The limits are those of the last version.
use Rattle.std.specs.Prelude.{◌≡◌, ℕ, ◌+◌, ◌<◌, ◌≤◌, Bool, true, false, Option, Some, None, List, [], ◌∷◌, map, length, slice_get}
use Rattle.std.specs.List.{list_any}
use Rattle.mc_protocol.specs.{Legal.is_legal, Names.are_distinct, Words.class_index}
use Rattle.mc_script.specs.Values.{Verb, Class, Word, REQUESTS_LIMIT, REQUEST_BYTES_LIMIT, STEPS_LIMIT, Label, Step}
use Rattle.mc_script.specs.Script.{Names, Section, Script, AreDeclared}
use Rattle.mc_script.specs.Values.class
use Rattle.mc_protocol.specs.declared.request.Verb.TheVariants as verb
use Rattle.mc_script.specs.Values.step
use Rattle.mc_script.specs.{ScriptWords.is_label_name, Templates.IsTemplate}

-- the label with this index stands after the step at this place
abbrev pub IsAfter : List Label → ℕ → ℕ → Type 0
IsAfter labels place index = (label : Label) × (slice_get labels index ≡ Some label) × (place < label.place)

-- the jumps of a step at this place, on classes from the index `least` on: legal classes in their order, labels after the
-- step
abbrev pub AreJumps : Verb → List Label → ℕ → ℕ → List (Class × ℕ) → Type 0
AreJumps verb labels place least [] = Unit {0}
AreJumps verb labels place least (jump ∷ jumps) =
    (least ≤ class_index jump.0) × (is_legal verb jump.0 ≡ true) × IsAfter labels place jump.1
    × AreJumps verb labels place (class_index jump.0 + 1) jumps

-- the verb's replies may show a number
abbrev pub shows_numbers : Verb → Bool
shows_numbers verb.Gets = true
shows_numbers verb.Incr = true
shows_numbers verb.Decr = true
shows_numbers _ = false

-- a reply of this class shows a number, where the verb's replies may show one
abbrev pub is_number_class : Class → Bool
is_number_class class.Hit = true
is_number_class class.Number = true
is_number_class _ = false

abbrev pub jumps_on_number : List (Class × ℕ) → Bool
jumps_on_number jumps = list_any (λ jump. is_number_class jump.0) jumps

-- the variable is declared, the verb's replies may show a number, and after one the next step follows
abbrev pub MayBind : Names → Verb → List (Class × ℕ) → Option ℕ → Type 0
MayBind names verb jumps None = Unit {0}
MayBind names verb jumps (Some variable) =
    (variable < length names.vars) × (shows_numbers verb ≡ true) × (jumps_on_number jumps ≡ false)

-- what a step names is declared, and its labels stand after it
abbrev pub IsStep : Names → List Label → ℕ → Step → Type 0
IsStep names labels place (step.Send t jumps bind) =
    IsTemplate (length names.keys) (length names.flags) (length names.vars) t
    × AreJumps t.verb labels place 0 jumps × MayBind names t.verb jumps bind
IsStep names labels place (step.Bind variable) = variable < length names.vars
IsStep names labels place (step.Goto label) = IsAfter labels place label
IsStep names labels place step.Halt = Unit {0}

-- the steps of a section from this place on
abbrev pub AreSteps : Names → List Label → ℕ → List Step → Type 0
AreSteps names labels place [] = Unit {0}
AreSteps names labels place (s ∷ steps) = IsStep names labels place s × AreSteps names labels (place + 1) steps

-- labels of a section with `steps` steps, from this place on, in the order of their places
abbrev pub AreLabels : ℕ → ℕ → List Label → Type 0
AreLabels steps place [] = Unit {0}
AreLabels steps place (label ∷ labels) =
    (is_label_name label.name ≡ true) × (place ≤ label.place) × (label.place ≤ steps) × AreLabels steps label.place labels

abbrev pub label_names : List Label → List Word
label_names labels = map (λ label. label.name) labels

pub record IsSection (names : Names) (s : Section) : Type 0 where
  pub requests : s.budget.requests ≤ REQUESTS_LIMIT
  pub bytes : s.budget.bytes ≤ REQUEST_BYTES_LIMIT
  pub few : length s.steps ≤ STEPS_LIMIT
  pub steps : AreSteps names s.labels 0 s.steps
  pub labels : AreLabels (length s.steps) 0 s.labels
  pub distinct : are_distinct (label_names s.labels) ≡ true

pub record IsScript (s : Script) : Type 0 where
  pub declared : AreDeclared s.names
  pub p : IsSection s.names s.sections.p
  pub a : IsSection s.names s.sections.a
  pub b : IsSection s.names s.sections.b
