-- Why a job has no code follows from why its script has none, or why the code has none under a name.
use Rattle.std.proofs.Common.{◌≡◌, ℕ, Some, None, List, [], inl, inr, Result, Ok, Err, IfErr, IfOk, refl, sym, ap, subst, ◌∙◌}
use Rattle.std.proofs.lemmas.List.Quantifiers.{position-Some}
use Rattle.std.specs.{Prelude.Option, List.position}
use Rattle.mc_protocol.specs.Lines.{Word}
use Rattle.mc_code.specs.{Code.Code}
use Rattle.mc_assembler.specs.Layout.{code_of}
use Rattle.mc_sound.specs.Checked.{Checked}
use Rattle.mc_generate.specs.JobCodes.{code_for, fault_of, HasLongKey, IsJobFault}
use Rattle.mc_generate.specs.{Generated.generated, Generated.names_of, CodesUnder.code_under, CodesUnder.IsPutFault, Refusals.HasFault, Refusals.IsRefused}
use Rattle.mc_generate.specs.{declared.fault.GenFault.GenFault, declared.fault.JobFault.JobFault, declared.naming.PutFault.PutFault}
use Rattle.mc_settings.specs.Namespaces.{is_too_long, AreShort}
use Rattle.mc_generate.specs.declared.fault.GenFault.TheVariants as gen
use Rattle.mc_generate.specs.declared.fault.JobFault.TheVariants as fault
use Rattle.mc_generate.specs.declared.naming.PutFault.TheVariants as put

-- a script that has no code leaves its job without code
pub script_fault : (seed : ℕ) (name : Option Word) (job : ℕ) (f : GenFault) → IsRefused (generated seed job) f → IsJobFault name seed job (fault_of f)
script_fault seed name job gen.OutOfMemory h = tt
script_fault seed name job gen.Refused h = inl h

-- the keys of a job's code are those of its names
keys-of : (seed job : ℕ) → (code_of (generated seed job)).keys ≡ (names_of job).keys
unfolding generated
keys-of seed job = refl

-- so does code that has none under a name
pub named_fault : (seed : ℕ) (name : Word) (job : ℕ) (c : Code) (r : Result Checked JobFault) → c ≡ code_of (generated seed job)
    → IfErr r (λ f. f ≡ fault.Refused → HasFault (code_under name c)) → IfErr r (λ f. f ≡ fault.KeyTooLong → AreShort name c.keys → ⊥)
    → IfErr r (IsJobFault (Some name) seed job)
named_fault seed name job c (Ok checked) is refused long = tt
named_fault seed name job c (Err fault.OutOfMemory) is refused long = tt
named_fault seed name job c (Err fault.Refused) is refused long = inr (subst (λ (k : Code). HasFault (code_under name k)) is (refused refl))
named_fault seed name job c (Err fault.KeyTooLong) is refused long =
    λ short. long refl (subst (AreShort name) (sym (ap (λ (k : Code). k.keys) is ∙ keys-of seed job)) short)

-- where a key is found that becomes too long, not all keys are short
pub key_is_long : (name : Word) (c own : Code) (f : PutFault) (index : ℕ) → IsPutFault name c.keys f → f ≡ put.KeyTooLong index → c ≡ own
    → AreShort name own.keys → ⊥
key_is_long name c own f index is which same short =
    let found : position (is_too_long name) c.keys ≡ Some index = subst (IsPutFault name c.keys) which is in
    let at = position-Some (is_too_long name) c.keys index [] found in
    let few : AreShort name c.keys = subst (λ (k : Code). AreShort name k.keys) (sym same) short in
    absurd (cc (at.1, few index [] at.0))
