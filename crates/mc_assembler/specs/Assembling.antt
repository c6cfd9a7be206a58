-- What the assembler's functions make from the places of the steps and of the labels. No public contract cites these:
-- specs/Layout.antt says what the code of a script is, and the proofs join the two.
use Rattle.std.specs.Prelude.{ℕ, ◌+◌, Option, Some, None, List, [], ◌∷◌, ◌++◌, map, length, slice_index_or, if◌then◌else◌}
use Rattle.mc_protocol.specs.declared.request.Verb.{Verb}
use Rattle.mc_protocol.specs.{Legal.is_legal, declared.actor.Actor.Actor, declared.reply.Class.Class, Lines.Word, Words.all_classes}
use Rattle.mc_protocol.specs.declared.actor.Actor.TheVariants as actor
use Rattle.mc_protocol.specs.declared.request.Verb.TheVariants as verb
use Rattle.mc_script.specs.{declared.section.Label.Label, declared.step.Step.Step, Script.Script, WellFormed.is_number_class}
use Rattle.mc_script.specs.declared.step.Step.TheVariants as step
use Rattle.mc_code.specs.{declared.instr.Instr.Instr, declared.limits.TheConstants.NO_ENTRY}
use Rattle.mc_assembler.specs.{declared.emit.Onward.Onward, Layout.request_of}
use Rattle.mc_assembler.specs.{Layout.size_of, Layout.bind_code, ScriptRuns.jump_on}
use Rattle.mc_code.specs.declared.instr.Instr.TheVariants as instr

-- the keys that a section clears
abbrev pub cleared_keys : Script → Actor → List Word
cleared_keys s actor.P = s.names.keys
cleared_keys s actor.A = []
cleared_keys s actor.B = []

-- ---- places

-- where the code of each step begins, the first one here, and where the section's end does
abbrev pub places_from : ℕ → List Step → List ℕ
places_from place [] = place ∷ []
places_from place (s ∷ steps) = place ∷ places_from (place + size_of s) steps

-- where the code begins of each step, and after each label
pub record Places : Type 0 where
  pub steps : List ℕ
  pub labels : List ℕ

abbrev pub place_in : List ℕ → ℕ → ℕ
place_in places index = slice_index_or places index 0

abbrev pub label_places : List ℕ → List Label → List ℕ
label_places places [] = []
label_places places (label ∷ labels) = place_in places label.place ∷ label_places places labels

abbrev pub places_of : ℕ → List Step → List Label → Places
places_of first steps labels =
    record { steps = places_from first steps; labels = label_places (places_from first steps) labels }

-- ---- instructions

-- a hit or a number goes to the bind, if there is one; every other class goes to the next step
abbrev pub onward_from : List ℕ → ℕ → Option ℕ → Onward
onward_from places p None = record { number = place_in places (p + 1); other = place_in places (p + 1) }
onward_from places p (Some variable) = record { number = place_in places p + 1; other = place_in places (p + 1) }

abbrev pub entry_by : List ℕ → Onward → Class → Option ℕ → ℕ
entry_by labels onward class (Some label) = place_in labels label
entry_by labels onward class None = if is_number_class class then onward.number else onward.other

abbrev pub legal_entry : List ℕ → Verb → List (Class × ℕ) → Onward → Class → ℕ
legal_entry labels verb jumps onward class =
    if is_legal verb class then entry_by labels onward class (jump_on class jumps) else NO_ENTRY

unfoldable pub legal_entries : List ℕ → Verb → List (Class × ℕ) → Onward → List ℕ
legal_entries labels verb jumps onward = map (legal_entry labels verb jumps onward) all_classes

abbrev pub send_for : Places → ℕ → ℕ → Verb → List (Class × ℕ) → Option ℕ → Instr
send_for places template p verb jumps bind =
    instr.Send template (legal_entries places.labels verb jumps (onward_from places.steps p bind))

-- the instructions of the step at this place, whose request has this template
abbrev pub instructions_for : Places → ℕ → ℕ → Step → List Instr
instructions_for places template p (step.Send t jumps bind) =
    send_for places template p t.verb jumps bind ∷ bind_code bind
instructions_for places template p (step.Bind variable) = instr.Bind variable ∷ []
instructions_for places template p (step.Goto label) = instr.Goto (place_in places.labels label) ∷ []
instructions_for places template p step.Halt = instr.Halt ∷ []

-- the instructions of these steps, and the halt after them
abbrev pub instructions_from : Places → ℕ → ℕ → List Step → List Instr
instructions_from places template p [] = instr.Halt ∷ []
instructions_from places template p (s ∷ steps) =
    instructions_for places template p s ++ instructions_from places (template + length (request_of s)) (p + 1) steps

-- a delete of the key: each of its replies leads to the next instruction
abbrev pub clearing_send : List ℕ → ℕ → Instr
clearing_send labels key = instr.Send key (legal_entries labels verb.Delete [] (record { number = key + 1; other = key + 1 }))

abbrev pub clearing_code : List ℕ → ℕ → List Word → List Instr
clearing_code labels key [] = []
clearing_code labels key (_ ∷ keys) = clearing_send labels key ∷ clearing_code labels (key + 1) keys
