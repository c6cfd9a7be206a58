-- The code of an input: that of the script which it spells, or that whose image it is; or why it has none.
use Rattle.std.specs.Prelude.{◌≡◌, ◌≢◌, ◌⊎◌, ◌==◌, ℕ, Bool, true, false, List, Result, Ok, Err, MatchResult, codes}
use Rattle.std.specs.List.{starts_with}
use Rattle.mc_script_text.specs.declared.fault.ScriptKind.TheVariants as script_kind
use Rattle.mc_script.specs.Script.{Script}
use Rattle.mc_script_text.specs.{FrontText.SpellsFront, ScriptText.SpellsScript}
use Rattle.mc_assembler.specs.Layout.{IsExceeded, IsFirst, code_of}
use Rattle.mc_code.specs.{Code.Code, Code.IsCode}
use Rattle.mc_assembler.specs.{declared.fault.AsmFault.AsmFault, Agreement.Agrees}
use Rattle.mc_assembler.specs.declared.fault.AsmFault.TheVariants as asm_fault
use Rattle.mc_image.specs.declared.fault.ImageKind.TheVariants as image_kind
use Rattle.mc_image.specs.Image.{IsImageOf}
use Rattle.mc_hints.specs.{Refusals.load_refusal, Refusals.unsound_text, declared.refused.LoadFault.LoadFault}
use Rattle.mc_hints.specs.declared.refused.LoadFault.TheVariants as load_fault
use Rattle.mc_verify.specs.Refusals.{IsRightRefusal, Refusal}
use Rattle.mc_sound.specs.Faults.{IsSound}
use Rattle.mc_answers.specs.Refusing.{IsRefusal}

-- ---- scripts

-- no script is spelled by the text
abbrev pub SpellsNoScript : List ℕ → Type 0
SpellsNoScript text = (s : Script) → SpellsScript text s → ⊥

-- the code is that of the script, and does the same
abbrev pub IsAssembled : Script → Code → Type 0
IsAssembled s code = Agrees s code × (code ≡ code_of s)

-- the script exceeds this limit, and none before it
abbrev pub IsTooLarge : Script → AsmFault → Type 0
IsTooLarge s limit = (limit ≢ asm_fault.OutOfMemory) × IsExceeded s limit × IsFirst s limit

-- the code of the script that the text spells
abbrev pub IsScriptCode : List ℕ → Code → Type 0
IsScriptCode text code = (s : Script) × SpellsScript text s × IsAssembled s code

-- why the text has no code: it spells no script, or one that is too large
abbrev pub IsScriptFault : List ℕ → LoadFault → Type 0
IsScriptFault text (load_fault.NoScript found) = (found.kind ≢ script_kind.OutOfMemory) × SpellsNoScript text
IsScriptFault text (load_fault.TooLarge limit) = (s : Script) × SpellsScript text s × IsTooLarge s limit
IsScriptFault text (load_fault.NoImage found) = ⊥

abbrev pub LoadsScript : List ℕ → Result Code LoadFault → Type 0
LoadsScript text loaded = MatchResult loaded (IsScriptCode text) (IsScriptFault text)

-- ---- scripts that something follows

-- the code of the script that the first size bytes of the text spell
abbrev pub IsFrontCode : List ℕ → Code → ℕ → Type 0
IsFrontCode text code size = (s : Script) × SpellsFront text s size × IsAssembled s code

-- why the text begins with no code: it begins with no script, or with one that is too large
abbrev pub IsFrontFault : List ℕ → LoadFault → Type 0
IsFrontFault text (load_fault.NoScript found) =
    (found.kind ≢ script_kind.OutOfMemory) × ((s : Script) (size : ℕ) → SpellsFront text s size → ⊥)
IsFrontFault text (load_fault.TooLarge limit) = (s : Script) × (size : ℕ) × SpellsFront text s size × IsTooLarge s limit
IsFrontFault text (load_fault.NoImage found) = ⊥

-- ---- images

-- the code whose image the bytes are
abbrev pub IsImageCode : List ℕ → Code → Type 0
IsImageCode bytes code = IsCode code × IsImageOf bytes code

-- why the bytes have no code: they are the image of none
abbrev pub IsImageFault : List ℕ → LoadFault → Type 0
IsImageFault bytes (load_fault.NoScript found) = ⊥
IsImageFault bytes (load_fault.TooLarge limit) = ⊥
IsImageFault bytes (load_fault.NoImage found) =
    (found.kind ≢ image_kind.OutOfMemory) × ((code : Code) → IsCode code → IsImageOf bytes code → ⊥)

abbrev pub LoadsImage : List ℕ → Result Code LoadFault → Type 0
LoadsImage bytes loaded = MatchResult loaded (IsImageCode bytes) (IsImageFault bytes)

-- ---- either

-- the input begins as each image does, whatever its version
abbrev pub begins_as_image : List ℕ → Bool
begins_as_image input = starts_with (◌==◌) input (codes "MCR")

-- what begins as an image is read as one, and any other input as a script
abbrev pub Loads : List ℕ → Result Code LoadFault → Type 0
Loads input loaded =
    ((begins_as_image input ≡ true) × LoadsImage input loaded) ⊎ ((begins_as_image input ≡ false) × LoadsScript input loaded)

-- ---- refusals

-- the text says why an input has no code: by a fault that is its, with a hint where `why` asks for one
abbrev pub SaysNoCode : (LoadFault → Type 0) → Bool → List ℕ → Type 0
SaysNoCode IsFault why text = (fault : LoadFault) × IsFault fault × IsRefusal why (load_refusal fault) text

-- the text names the least fault of the code
abbrev pub SaysUnsound : Code → Bool → List ℕ → Type 0
SaysUnsound code why text = (found : Refusal) × IsRightRefusal code found × IsRefusal why (unsound_text found) text

-- ---- scripts whose code is sound

-- the text spells a script, whose code is sound
pub record Spells (text : List ℕ) (code : Code) : Type 0 where
  pub code_of_script : LoadsScript text (Ok code)
  pub sound : IsSound code

-- the text spells no script, or one whose code isn't there or isn't sound, as the refusal says
abbrev pub IsScriptRefusal : Bool → List ℕ → List ℕ → Type 0
IsScriptRefusal why text refusal =
    SaysNoCode (λ fault. LoadsScript text (Err fault)) why refusal
    ⊎ ((code : Code) × LoadsScript text (Ok code) × SaysUnsound code why refusal)

-- ---- a part that a private clause cites

-- why a script has no code
abbrev pub IsSizeFault : Script → LoadFault → Type 0
IsSizeFault s (load_fault.NoScript found) = ⊥
IsSizeFault s (load_fault.TooLarge limit) = IsTooLarge s limit
IsSizeFault s (load_fault.NoImage found) = ⊥
