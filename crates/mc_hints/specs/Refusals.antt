-- What is written if an input is refused.
use Rattle.std.specs.Prelude.{◌≡◌, ℕ, Bool, false, List, [], ◌++◌, codes, decimal, flat_map}
use Rattle.mc_protocol.specs.{Words.actor_word, Words.class_word, declared.actor.Actor.Actor, declared.reply.Class.Class}
use Rattle.mc_model.specs.Kinds as history_kinds
use Rattle.mc_model.specs.declared.rules.HistoryKind.{HistoryKind}
use Rattle.mc_history.specs.StepKinds as steps_kinds
use Rattle.mc_history.specs.declared.steps_fault.StepsKind.{StepsKind}
use Rattle.mc_script_text.specs.Kinds as script_kinds
use Rattle.mc_assembler.specs.AsmKinds as asm_kinds
use Rattle.mc_image.specs.ImageKinds as image_kinds
use Rattle.mc_assembler.specs.declared.fault.AsmFault.{AsmFault}
use Rattle.mc_assembler.specs.declared.fault.AsmFault.TheVariants as asm_fault
use Rattle.mc_sound.specs.LeastFaults as code_kinds
use Rattle.mc_verify.specs.Refusals.{Refusal}
use Rattle.mc_sound.specs.declared.refusal_kind.RefusalKind.{RefusalKind}
use Rattle.mc_sound.specs.declared.refusal_kind.RefusalKind.TheVariants as kind
use Rattle.mc_hints.specs.{declared.refusal.Location.Location, declared.refused.LoadFault.LoadFault, declared.refused.Refused.Refused}
use Rattle.mc_hints.specs.declared.refusal.Location.TheVariants as location
use Rattle.mc_hints.specs.declared.refused.LoadFault.TheVariants as load_fault
use Rattle.mc_hints.specs.declared.refused.Refused.TheVariants as refused

-- where the fault is
abbrev pub location_text : Location → List ℕ
location_text location.Whole = []
location_text (location.Line line) = codes " line " ++ decimal line
location_text (location.Byte offset) = codes " byte " ++ decimal offset
location_text (location.Section actor) = codes " " ++ actor_word actor
location_text (location.Instruction actor number) = codes " " ++ (actor_word actor ++ (codes " " ++ decimal number))

-- what is refused, the number and the name of the fault, and where it is
abbrev pub refusal_line : List ℕ → ℕ → List ℕ → Location → List ℕ
refusal_line what number name where_is =
    codes "refused " ++ (what ++ (codes " " ++ (decimal number ++ (codes " " ++ (name ++ (location_text where_is ++ codes "\n"))))))

-- ---- a text that isn't what it was to be

-- what is written for a text that is no history
abbrev pub history_refusal : HistoryKind → ℕ → List ℕ
history_refusal fault line =
    refusal_line (codes "history") (history_kinds.kind_number fault) (history_kinds.kind_name fault) (location.Line line)

-- what is written for a text whose script no step list follows
abbrev pub steps_refusal : StepsKind → ℕ → List ℕ
steps_refusal fault line =
    refusal_line (codes "steps") (steps_kinds.kind_number fault) (steps_kinds.kind_name fault) (location.Line line)

-- ---- an input without code

-- a section that is too large is named
abbrev pub location_of : AsmFault → Location
location_of asm_fault.TooManyTemplates = location.Whole
location_of (asm_fault.TooManyInstructions actor) = location.Section actor
location_of asm_fault.OutOfMemory = location.Whole

-- what is written for a text that is no script, for a script that is too large, and for bytes that are no image
abbrev pub load_refusal : LoadFault → List ℕ
load_refusal (load_fault.NoScript found) =
    refusal_line (codes "script") (script_kinds.kind_number found.kind) (script_kinds.kind_name found.kind) (location.Line found.line)
load_refusal (load_fault.TooLarge limit) =
    refusal_line (codes "asm") (asm_kinds.kind_number limit) (asm_kinds.kind_name limit) (location_of limit)
load_refusal (load_fault.NoImage found) =
    refusal_line (codes "image") (image_kinds.kind_number found.kind) (image_kinds.kind_name found.kind) (location.Byte found.offset)

-- ---- code that isn't sound

-- a reply: its section, and its class as scripts name it
abbrev pub reply_line : Actor × Class → List ℕ
reply_line reply = actor_word reply.0 ++ (codes " " ++ (class_word reply.1 ++ codes "\n"))

-- the replies of a run that shows the fault, and `end`; of a fault of structure there is none
abbrev pub shown_text : RefusalKind → List (Actor × Class) → List ℕ
shown_text kind.BadTarget shown = []
shown_text kind.BadIndex shown = []
shown_text kind.NoHalt shown = []
shown_text kind.NotCleared shown = []
shown_text kind.OutOfMemory shown = []
shown_text _ shown = flat_map reply_line shown ++ codes "end\n"

-- its least fault, the section and the place of the instruction where it stands, and a run that shows it
abbrev pub unsound_text : Refusal → List ℕ
unsound_text refusal =
    refusal_line (codes "verify") (code_kinds.kind_number refusal.kind) (code_kinds.kind_name refusal.kind)
    (location.Instruction refusal.actor refusal.place)
    ++ shown_text refusal.kind refusal.shown

-- ---- any input

-- what is written for a refused input
abbrev pub refused_text : Refused → List ℕ
refused_text (refused.NoHistory found) = history_refusal found.kind found.line
refused_text (refused.NoCode found) = load_refusal found
refused_text (refused.Unsound found) = unsound_text found.now
refused_text (refused.NoSteps found) = steps_refusal found.kind found.line

-- What stands after the text of a refusal: if `why` asks for more, some lines, of which nothing is said; else nothing.
abbrev pub IsHint : Bool → List ℕ → Type 0
IsHint why hint = why ≡ false → hint ≡ []
