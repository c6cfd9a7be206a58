-- What code is: keys, how many flags and variables there are, templates, and three sections of instructions.
use Rattle.std.specs.Prelude.{◌≡◌, ℕ, ◌<◌, ◌≤◌, ◌==◌, true, not, List, length, max}
use Rattle.std.specs.List.{All}
use Rattle.mc_protocol.specs.declared.limits.TheConstants.{KEYS_LIMIT, KEY_BYTES_LIMIT, REQUESTS_LIMIT, REQUEST_BYTES_LIMIT}
use Rattle.mc_protocol.specs.{declared.actor.Actor.Actor, declared.sections.Sections.Sections, Lines.Word}
use Rattle.mc_protocol.specs.Sections as sections
use Rattle.mc_script.specs.declared.limits.TheConstants.{FLAGS_LIMIT, VARIABLES_LIMIT}
use Rattle.mc_script.specs.{declared.section.Budget.Budget, declared.step.Template.Template, Script.may_be_declared, Templates.IsTemplate}
use Rattle.mc_code.specs.declared.instr.Instr.{Instr}
use Rattle.mc_code.specs.declared.limits.TheConstants.{TEMPLATES_LIMIT, INSTRUCTIONS_LIMIT, CLASS_COUNT}
use Rattle.mc_code.specs.declared.instr.Instr.TheVariants as instr

-- what a section may send at most, and its instructions
pub record Section : Type 0 where
  pub budget : Budget
  pub instructions : List Instr

pub record Code : Type 0 where
  pub keys : List Word
  pub flags : ℕ
  pub vars : ℕ
  pub templates : List Template
  pub sections : Sections Section

-- the code of these parts
abbrev pub code_of : List Word → ℕ → ℕ → List Template → Sections Section → Code
code_of keys flags vars templates sections =
    record { keys = keys; flags = flags; vars = vars; templates = templates; sections = sections }

abbrev pub section_of : Code → Actor → Section
section_of c actor = sections.section_of c.sections actor

-- those of the actor's section
abbrev pub instructions_in : Code → Actor → List Instr
instructions_in c actor = (section_of c actor).instructions

-- how many instructions the longest section has
abbrev pub longest : Code → ℕ
longest c =
    max (length c.sections.p.instructions) (max (length c.sections.a.instructions) (length c.sections.b.instructions))

-- ---- what code keeps

abbrev pub is_byte : ℕ → Type 0
is_byte n = n < 256

-- what the instruction names is a byte, and a send has an entry for each class
abbrev pub IsInstr : Instr → Type 0
IsInstr (instr.Send template next) = is_byte template × (length next ≡ CLASS_COUNT) × All is_byte next
IsInstr (instr.Bind variable) = is_byte variable
IsInstr (instr.Goto place) = is_byte place
IsInstr instr.Halt = Unit {0}

pub record IsSection (s : Section) : Type 0 where
  pub requests : s.budget.requests ≤ REQUESTS_LIMIT
  pub bytes : s.budget.bytes ≤ REQUEST_BYTES_LIMIT
  pub few : length s.instructions ≤ INSTRUCTIONS_LIMIT
  pub instructions : All IsInstr s.instructions

-- at least one key, and no more of anything than the limits say; each template names what is there
pub record IsCode (c : Code) : Type 0 where
  pub some_key : not (length c.keys == 0) ≡ true
  pub keys : may_be_declared KEYS_LIMIT KEY_BYTES_LIMIT c.keys ≡ true
  pub flags : c.flags ≤ FLAGS_LIMIT
  pub vars : c.vars ≤ VARIABLES_LIMIT
  pub few : length c.templates ≤ TEMPLATES_LIMIT
  pub templates : All (IsTemplate (length c.keys) c.flags c.vars) c.templates
  pub sections : (actor : Actor) → IsSection (section_of c actor)
