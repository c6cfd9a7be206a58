-- The number and the name of each fault of the assembler, as a refusal shows them.
use Rattle.std.specs.Prelude.{ℕ, List, codes}
use Rattle.mc_assembler.specs.declared.fault.AsmFault.{AsmFault}
use Rattle.mc_assembler.specs.declared.fault.AsmFault.TheVariants as fault

abbrev pub number_and_name : AsmFault → ℕ × List ℕ
number_and_name fault.TooManyTemplates = (1, codes "TooManyTemplates")
number_and_name (fault.TooManyInstructions actor) = (2, codes "TooManyInstructions")
number_and_name fault.OutOfMemory = (3, codes "OutOfMemory")

abbrev pub kind_number : AsmFault → ℕ
kind_number found = (number_and_name found).0

abbrev pub kind_name : AsmFault → List ℕ
kind_name found = (number_and_name found).1
