-- The images of code: their bytes, field by field, in each version. Numbers of more than a byte are big endian.
use Rattle.std.specs.Prelude.{◌≡◌, ◌⊎◌, ℕ, true, List, [], ◌∷◌, ◌++◌, length, codes}
use Rattle.std.specs.{List.flat_map, Int.Width, Int.w16, Int.w32, Int.w64, Int.to_be_bytes}
use Rattle.mc_protocol.specs.declared.request.Verb.{Verb}
use Rattle.mc_protocol.specs.declared.request.Verb.TheVariants as verb
use Rattle.mc_script.specs.{declared.section.Budget.Budget, declared.step.Argument.Argument, declared.step.Template.Template}
use Rattle.mc_script.specs.{declared.version.Version.Version, Versions.has_room, Versions.least_version}
use Rattle.mc_script.specs.declared.step.Argument.TheVariants as argument
use Rattle.mc_script.specs.declared.version.Version.TheVariants as version
use Rattle.mc_code.specs.{declared.instr.Instr.Instr, Code.Section, Code.Code, Code.IsCode, Code.longest}
use Rattle.mc_code.specs.declared.instr.Instr.TheVariants as instr

-- ---- what the versions differ in, beside how many flags and instructions they have room for

-- the bytes with which an image begins
abbrev pub magic : Version → List ℕ
magic version.One = codes "MCR1"
magic version.Two = codes "MCR2"

-- the width of a mask
abbrev pub mask_width : Version → Width
mask_width version.One = w32
mask_width version.Two = w64

-- ---- lists

-- how many bytes there are, and the bytes
abbrev pub with_length : List ℕ → List ℕ
with_length bytes = length bytes ∷ bytes

-- how many there are, and each of them
abbrev pub with_count : {A : Type 0} → (A → List ℕ) → List A → List ℕ
with_count bytes_of xs = length xs ∷ flat_map bytes_of xs

-- ---- budgets

abbrev pub budget_bytes : Budget → List ℕ
budget_bytes budget = budget.requests ∷ to_be_bytes w16 budget.bytes

-- ---- templates

-- the position of a verb in the order of the verbs
abbrev pub verb_index : Verb → ℕ
verb_index verb.Set = 0
verb_index verb.Add = 1
verb_index verb.Replace = 2
verb_index verb.Append = 3
verb_index verb.Prepend = 4
verb_index verb.Cas = 5
verb_index verb.Get = 6
verb_index verb.Gets = 7
verb_index verb.Incr = 8
verb_index verb.Decr = 9
verb_index verb.Delete = 10
verb_index verb.Touch = 11

-- what it is, and its number or that of its variable, or 0
abbrev pub argument_bytes : Argument → List ℕ
argument_bytes argument.Nothing = 0 ∷ to_be_bytes w64 0
argument_bytes (argument.Number n) = 1 ∷ to_be_bytes w64 n
argument_bytes (argument.Variable v) = 2 ∷ to_be_bytes w64 v

abbrev pub mask_bytes : Version → ℕ → List ℕ
mask_bytes v mask = to_be_bytes (mask_width v) mask

abbrev pub masks_bytes : Version → Template → List ℕ
masks_bytes v t = mask_bytes v t.require_set ++ mask_bytes v t.require_clear ++ mask_bytes v t.sets ++ mask_bytes v t.clears

abbrev pub template_bytes : Version → Template → List ℕ
template_bytes v t =
    verb_index t.verb ∷ t.key ∷ (to_be_bytes w32 t.flags ++ argument_bytes t.argument ++ with_length t.body ++ masks_bytes v t)

-- ---- sections

abbrev pub instr_bytes : Instr → List ℕ
instr_bytes (instr.Send template next) = 0 ∷ template ∷ next
instr_bytes (instr.Bind variable) = 1 ∷ variable ∷ []
instr_bytes (instr.Goto place) = 2 ∷ place ∷ []
instr_bytes instr.Halt = 3 ∷ []

abbrev pub section_bytes : Section → List ℕ
section_bytes s = with_count instr_bytes s.instructions

-- ---- the whole image

-- the image of the code in the version
abbrev pub image_in : Version → Code → List ℕ
image_in v c =
    magic v ++ (with_count with_length c.keys ++ c.flags ∷ c.vars
    ∷ (budget_bytes c.sections.p.budget ++ budget_bytes c.sections.a.budget ++ budget_bytes c.sections.b.budget
    ++ with_count (template_bytes v) c.templates ++ section_bytes c.sections.p ++ section_bytes c.sections.a ++ section_bytes c.sections.b))

-- the version whose image is written of the code: the first one whose limits it keeps
abbrev pub version_of : Code → Version
version_of c = least_version c.flags (longest c)

-- the image that is written of the code
abbrev pub image_of : Code → List ℕ
image_of c = image_in (version_of c) c

-- the code keeps the limits of the version
abbrev pub IsWithin : Version → Code → Type 0
IsWithin v c = has_room v c.flags (longest c) ≡ true

-- the bytes are an image of the code, in some version whose limits it keeps
abbrev pub IsImageOf : List ℕ → Code → Type 0
IsImageOf bytes c = (v : Version) × IsWithin v c × (image_in v c ≡ bytes)

-- ---- laws

-- the image that is written of a code is an image of it
abbrev pub CodesHaveImages : Type 0
CodesHaveImages = (c : Code) → IsCode c → IsImageOf (image_of c) c

-- no two codes have the same image, and none has the same one in both versions
abbrev pub ImagesAreOfOneCode : Type 0
ImagesAreOfOneCode = (v w : Version) (c d : Code) → IsCode c → IsCode d → IsWithin v c → IsWithin w d → image_in v c ≡ image_in w d
    → (v ≡ w) × (c ≡ d)

-- an image of a code is the one that is written of it, or its image in version 2 where that of version 1 is written
abbrev pub ImagesAreWrittenAgain : Type 0
ImagesAreWrittenAgain = (bytes : List ℕ) (c : Code) → IsImageOf bytes c
    → (image_of c ≡ bytes) ⊎ ((image_of c ≡ image_in version.One c) × (image_in version.Two c ≡ bytes))
