-- Why a line asks for nothing.
use Rattle.std.proofs.Common.{◌≡◌, ◌⊎◌, ℕ, List, String, inl, inr, refl}
use Rattle.std.specs.Global.{Global}
use Rattle.mc_cli.specs.Asking.{AsksFor, IsFaultOf, MayShow, MayTell}
use Rattle.mc_cli.specs.{declared.request.LineFault.LineFault, declared.request.Request.Request}
use Rattle.mc_cli.specs.declared.request.LineFault.TheVariants as fault

-- a line that asks for something fails only where memory runs out
pub asking_lacks_memory : (words : List (List ℕ)) (wanted : Request) (found : LineFault) → AsksFor words wanted → IsFaultOf words found
    → found ≡ fault.OutOfMemory
asking_lacks_memory words wanted (fault.Shown text) asks is = absurd (is.0 wanted asks)
asking_lacks_memory words wanted (fault.Wrong text) asks is = absurd (is.0 wanted asks)
asking_lacks_memory words wanted fault.OutOfMemory asks is = refl

-- what a line may be whose reading failed
pub fault_is : (words : List (List ℕ)) (found : LineFault) → IsFaultOf words found
    → (found ≡ fault.OutOfMemory) ⊎ (((text : String Global) × (found ≡ fault.Shown text) × MayShow words)
    ⊎ ((text : String Global) × (found ≡ fault.Wrong text) × MayTell words))
fault_is words (fault.Shown text) is = inr (inl (text, refl, is.1))
fault_is words (fault.Wrong text) is = inr (inr (text, refl, is.1))
fault_is words fault.OutOfMemory is = inl refl
