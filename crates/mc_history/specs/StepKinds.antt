-- The number and the name of each kind of fault of a step list, as a refusal shows them.
use Rattle.std.specs.Prelude.{ℕ, List, codes}
use Rattle.mc_history.specs.declared.steps_fault.StepsKind.{StepsKind}
use Rattle.mc_history.specs.declared.steps_fault.StepsKind.TheVariants as kind

abbrev pub number_and_name : StepsKind → ℕ × List ℕ
number_and_name kind.Header = (1, codes "Header")
number_and_name kind.Line = (2, codes "Line")
number_and_name kind.TooMany = (3, codes "TooMany")
number_and_name kind.Unended = (4, codes "Unended")
number_and_name kind.OutOfMemory = (5, codes "OutOfMemory")

abbrev pub kind_number : StepsKind → ℕ
kind_number found = (number_and_name found).0

abbrev pub kind_name : StepsKind → List ℕ
kind_name found = (number_and_name found).1
