-- The code of a job under the name of its campaign, and why there may be none.
use Rattle.std.specs.Prelude.{◌⊎◌, ℕ, ◌+◌, ◌≤◌, ◌<◌, Option, Some, None}
use Rattle.mc_protocol.specs.Lines.{Word}
use Rattle.mc_code.specs.{Code.Code}
use Rattle.mc_assembler.specs.Layout.{code_of}
use Rattle.mc_settings.specs.{JobKeys.keys_of, Namespaces.AreShort}
use Rattle.mc_generate.specs.{Generated.generated, CodesUnder.code_under, Refusals.HasFault, Refusals.IsRefused}
use Rattle.mc_generate.specs.{declared.fault.GenFault.GenFault, declared.fault.JobFault.JobFault}
use Rattle.mc_generate.specs.declared.fault.GenFault.TheVariants as gen
use Rattle.mc_generate.specs.declared.fault.JobFault.TheVariants as fault

-- the code of the job's script, put under the name where there is one
abbrev pub code_for : Option Word → ℕ → ℕ → Code
code_for None seed job = code_of (generated seed job)
code_for (Some name) seed job = code_under name (code_of (generated seed job))

-- what keeps a job from having code where its script has none
abbrev pub fault_of : GenFault → JobFault
fault_of gen.OutOfMemory = fault.OutOfMemory
fault_of gen.Refused = fault.Refused

-- under the name a key of the job has more bytes than a key may have
abbrev pub HasLongKey : Option Word → ℕ → Type 0
HasLongKey None job = ⊥
HasLongKey (Some name) job = AreShort name (keys_of job) → ⊥

-- so there may be no code of the job: its script or its code under the name is refused, or a key becomes too long
abbrev pub IsJobFault : Option Word → ℕ → ℕ → JobFault → Type 0
IsJobFault name seed job fault.OutOfMemory = Unit {0}
IsJobFault name seed job fault.Refused = IsRefused (generated seed job) gen.Refused ⊎ HasFault (code_for name seed job)
IsJobFault name seed job fault.KeyTooLong = HasLongKey name job
