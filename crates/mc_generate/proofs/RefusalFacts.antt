-- What a refusal of the code of a generated script tells.
use Rattle.std.proofs.Common.{◌≡◌, inl, inr, Result, Ok, Err, IfErr, refl, ap, subst}
use Rattle.mc_script.specs.Script.{Script}
use Rattle.mc_code.specs.{Code.Code}
use Rattle.mc_assembler.specs.Layout.{code_of}
use Rattle.mc_sound.specs.Checked.{Checked}
use Rattle.mc_verify.specs.{Refusals.IsRefusalOf, declared.refusal.Refusal.Refusal}
use Rattle.mc_sound.specs.declared.refusal_kind.RefusalKind.TheVariants as kind
use Rattle.mc_generate.specs.{declared.fault.GenFault.GenFault, Refusals.HasFault, Refusals.IsRefused}
use Rattle.mc_generate.specs.declared.fault.GenFault.TheVariants as fault

-- a refusal for another cause than want of memory names a fault of the code
pub fault-named : (code : Code) (refusal : Refusal) → (refusal.kind ≡ kind.OutOfMemory → ⊥) → IsRefusalOf code refusal → HasFault code
fault-named code refusal other (inl least) = (refusal.kind, refusal.actor, refusal.place, least.least.stands)
fault-named code refusal other (inr e) = absurd (other (ap (λ (r : Refusal). r.kind) e))

pub script-refused : (s : Script) (code : Code) (r : Result Checked GenFault) → code ≡ code_of s → IfErr r (λ f. f ≡ fault.Refused → HasFault code)
    → IfErr r (IsRefused s)
script-refused s code (Ok checked) e h = tt
script-refused s code (Err fault.OutOfMemory) e h = tt
script-refused s code (Err fault.Refused) e h = inr (subst HasFault e (h refl))
