-- What `asm` answers to a text.
use Rattle.std.specs.Prelude.{◌≡◌, ◌⊎◌, ℕ, Bool, List, Ok, Err}
use Rattle.mc_code.specs.Code.{Code}
use Rattle.mc_image.specs.Image.{image_of}
use Rattle.mc_answers.specs.{Loading.LoadsScript, Loading.SaysNoCode, declared.status.Status.Status}
use Rattle.mc_answers.specs.declared.status.Status.TheVariants as status

-- the image of the code of the script that the text spells is written; or why there is no code
abbrev pub Assembles : Bool → List ℕ → List ℕ → Status → Type 0
Assembles why text output ended =
    ((code : Code) × LoadsScript text (Ok code) × (output ≡ image_of code) × (ended ≡ status.Success))
    ⊎ (SaysNoCode (λ fault. LoadsScript text (Err fault)) why output × (ended ≡ status.Refused))
