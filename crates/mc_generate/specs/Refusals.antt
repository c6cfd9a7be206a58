-- Why a script that a generator makes has no code that may run.
use Rattle.std.specs.Prelude.{◌≢◌, ◌⊎◌, ℕ}
use Rattle.mc_protocol.specs.declared.actor.Actor.{Actor}
use Rattle.mc_script.specs.Script.{Script}
use Rattle.mc_code.specs.{Code.Code}
use Rattle.mc_assembler.specs.{Layout.code_of, Layout.IsExceeded, declared.fault.AsmFault.AsmFault}
use Rattle.mc_assembler.specs.declared.fault.AsmFault.TheVariants as asm
use Rattle.mc_sound.specs.{Faults.IsFault, declared.refusal_kind.RefusalKind.RefusalKind}
use Rattle.mc_generate.specs.declared.fault.GenFault.{GenFault}
use Rattle.mc_generate.specs.declared.fault.GenFault.TheVariants as fault

-- one of the assembler's limits is exceeded
abbrev pub IsTooLarge : Script → Type 0
IsTooLarge s = (limit : AsmFault) × (limit ≢ asm.OutOfMemory) × IsExceeded s limit

-- a fault stands in the code
abbrev pub HasFault : Code → Type 0
HasFault c = (kind : RefusalKind) × (actor : Actor) × (place : ℕ) × IsFault c kind actor place

-- the script may be refused so
abbrev pub IsRefused : Script → GenFault → Type 0
IsRefused s fault.OutOfMemory = Unit {0}
IsRefused s fault.Refused = IsTooLarge s ⊎ HasFault (code_of s)
