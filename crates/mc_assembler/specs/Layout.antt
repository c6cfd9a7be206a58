-- How the code of a script is laid out: templates, places and instructions.
use Rattle.std.specs.Prelude.{◌⊎◌, ℕ, ◌+◌, ◌<◌, ◌≤◌, Option, Some, None, List, [], ◌∷◌, ◌++◌, map, length, take, slice_get, if◌then◌else◌}
use Rattle.std.specs.List.{flat_map}
use Rattle.mc_protocol.specs.{Legal.is_legal, declared.actor.Actor.Actor, declared.reply.Class.Class, Words.all_classes}
use Rattle.mc_protocol.specs.declared.actor.Actor.TheVariants as actor
use Rattle.mc_script.specs.declared.step.Template.{Template}
use Rattle.mc_script.specs.{declared.section.Label.Label, declared.step.Step.Step, WellFormed.is_number_class}
use Rattle.mc_script.specs.declared.step.Step.TheVariants as step
use Rattle.mc_script.specs.Script as script
use Rattle.mc_code.specs.declared.limits.TheConstants.{TEMPLATES_LIMIT, INSTRUCTIONS_LIMIT, NO_ENTRY}
use Rattle.mc_assembler.specs.ScriptRuns.{front_of, all_steps, all_labels, jump_on}
use Rattle.mc_code.specs.{declared.instr.Instr.Instr}
use Rattle.mc_assembler.specs.declared.fault.AsmFault.{AsmFault}
use Rattle.mc_assembler.specs.declared.fault.AsmFault.TheVariants as fault
use Rattle.mc_code.specs.declared.instr.Instr.TheVariants as instr
use Rattle.mc_code.specs.Code as code

-- ---- templates: one for each request, P's first, then A's, then B's

abbrev pub request_of : Step → List Template
request_of (step.Send t jumps bind) = t ∷ []
request_of (step.Bind variable) = []
request_of (step.Goto label) = []
request_of step.Halt = []

abbrev pub requests_of : List Step → List Template
requests_of steps = flat_map request_of steps

abbrev pub templates_of : script.Script → List Template
templates_of s = requests_of (all_steps s actor.P) ++ requests_of (all_steps s actor.A) ++ requests_of (all_steps s actor.B)

-- ---- places

-- how many instructions a step is: a request that binds a variable is a send and a bind
abbrev pub size_of : Step → ℕ
size_of (step.Send t jumps None) = 1
size_of (step.Send t jumps (Some variable)) = 2
size_of (step.Bind variable) = 1
size_of (step.Goto label) = 1
size_of step.Halt = 1

abbrev pub size_of_all : List Step → ℕ
size_of_all [] = 0
size_of_all (s ∷ steps) = size_of s + size_of_all steps

-- where the code of the step at this place begins
abbrev pub code_place : List Step → ℕ → ℕ
code_place steps p = size_of_all (take p steps)

-- the instruction at this place belongs to the step of this index: the step's code begins there or before, and ends after it
abbrev pub IsWithin : List Step → ℕ → ℕ → Type 0
IsWithin steps index place = (index < length steps) × (code_place steps index ≤ place) × (place < code_place steps (index + 1))

-- the same of a script's own steps, before which stand those that clear the keys
abbrev pub IsOfStep : script.Script → Actor → ℕ → ℕ → Type 0
IsOfStep s actor index place = IsWithin (all_steps s actor) (length (front_of s actor) + index) place

-- it belongs to none of them
abbrev pub IsOfNoStep : script.Script → Actor → ℕ → Type 0
IsOfNoStep s actor place = (place < code_place (all_steps s actor) (length (front_of s actor))) ⊎ (size_of_all (all_steps s actor) ≤ place)

-- where the code begins after a label
abbrev pub after_label : List Step → Option Label → ℕ
after_label steps None = 0
after_label steps (Some label) = code_place steps label.place

abbrev pub label_place : List Label → List Step → ℕ → ℕ
label_place labels steps index = after_label steps (slice_get labels index)

-- ---- instructions

-- where a class leads: to its label; a hit or a number to the bind, if there is one; or to the next step
abbrev pub entry_for : List Label → List Step → ℕ → Option ℕ → Class → Option ℕ → ℕ
entry_for labels steps p bind class (Some label) = label_place labels steps label
entry_for labels steps p None class None = code_place steps (p + 1)
entry_for labels steps p (Some variable) class None =
    if is_number_class class then code_place steps p + 1 else code_place steps (p + 1)

-- the same, and no entry for a class that the verb is never answered with
abbrev pub entry : List Label → List Step → ℕ → Template → List (Class × ℕ) → Option ℕ → Class → ℕ
entry labels steps p t jumps bind class =
    if is_legal t.verb class then entry_for labels steps p bind class (jump_on class jumps) else NO_ENTRY

abbrev pub entries : List Label → List Step → ℕ → Template → List (Class × ℕ) → Option ℕ → List ℕ
entries labels steps p t jumps bind = map (entry labels steps p t jumps bind) all_classes

abbrev pub bind_code : Option ℕ → List Instr
bind_code None = []
bind_code (Some variable) = instr.Bind variable ∷ []

-- the instructions of one of these steps, at this place, whose request has this template
abbrev pub step_code : List Label → List Step → ℕ → ℕ → Step → List Instr
step_code labels steps template p (step.Send t jumps bind) =
    instr.Send template (entries labels steps p t jumps bind) ∷ bind_code bind
step_code labels steps template p (step.Bind variable) = instr.Bind variable ∷ []
step_code labels steps template p (step.Goto label) = instr.Goto (label_place labels steps label) ∷ []
step_code labels steps template p step.Halt = instr.Halt ∷ []

-- the instructions from this place on, where the next request has this template; the last one ends the section
abbrev pub code_from : List Label → List Step → ℕ → ℕ → List Step → List Instr
code_from labels steps template p [] = instr.Halt ∷ []
code_from labels steps template p (s ∷ rest) =
    step_code labels steps template p s ++ code_from labels steps (template + length (request_of s)) (p + 1) rest

-- how many templates stand before those of a section
abbrev pub first_template : script.Script → Actor → ℕ
first_template s actor.P = 0
first_template s actor.A = length (requests_of (all_steps s actor.P))
first_template s actor.B = length (requests_of (all_steps s actor.P)) + length (requests_of (all_steps s actor.A))

abbrev pub instructions_of : script.Script → Actor → List Instr
instructions_of s actor = code_from (all_labels s actor) (all_steps s actor) (first_template s actor) 0 (all_steps s actor)

-- ---- the whole code

abbrev pub section_code : script.Script → Actor → code.Section
section_code s actor = record { budget = (script.section_of s actor).budget; instructions = instructions_of s actor }

abbrev pub code_of : script.Script → code.Code
code_of s = record {
  keys = s.names.keys;
  flags = length s.names.flags;
  vars = length s.names.vars;
  templates = templates_of s;
  sections = record { p = section_code s actor.P; a = section_code s actor.A; b = section_code s actor.B };
}

-- ---- limits

abbrev pub template_count : script.Script → ℕ
template_count s = length (templates_of s)

abbrev pub instruction_count : script.Script → Actor → ℕ
instruction_count s actor = size_of_all (all_steps s actor) + 1

-- the limit that a refusal names is exceeded
abbrev pub IsExceeded : script.Script → AsmFault → Type 0
IsExceeded s fault.TooManyTemplates = TEMPLATES_LIMIT < template_count s
IsExceeded s (fault.TooManyInstructions actor) = INSTRUCTIONS_LIMIT < instruction_count s actor
IsExceeded s fault.OutOfMemory = Unit {0}

-- the limits before the one that a refusal names are kept: the templates come first, and then P, A and B
abbrev pub IsFirst : script.Script → AsmFault → Type 0
IsFirst s fault.TooManyTemplates = Unit {0}
IsFirst s (fault.TooManyInstructions actor.P) = template_count s ≤ TEMPLATES_LIMIT
IsFirst s (fault.TooManyInstructions actor.A) =
    (template_count s ≤ TEMPLATES_LIMIT) × (instruction_count s actor.P ≤ INSTRUCTIONS_LIMIT)
IsFirst s (fault.TooManyInstructions actor.B) =
    (template_count s ≤ TEMPLATES_LIMIT) × (instruction_count s actor.P ≤ INSTRUCTIONS_LIMIT)
    × (instruction_count s actor.A ≤ INSTRUCTIONS_LIMIT)
IsFirst s fault.OutOfMemory = Unit {0}
