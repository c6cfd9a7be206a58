-- The number and the name of a kind, as the refusal of a script shows them.
use Rattle.std.specs.Prelude.{ℕ, List, codes}
use Rattle.mc_script_text.specs.Values.{ScriptKind}
use Rattle.mc_script_text.specs.Values.kind

abbrev pub number_and_name : ScriptKind → ℕ × List ℕ
number_and_name kind.Header = (1, codes "Header")
number_and_name kind.Line = (2, codes "Line")
number_and_name kind.Name = (3, codes "Name")
number_and_name kind.Duplicate = (4, codes "Duplicate")
number_and_name kind.UnknownKey = (5, codes "UnknownKey")
number_and_name kind.UnknownFlag = (6, codes "UnknownFlag")
number_and_name kind.UnknownVar = (7, codes "UnknownVar")
number_and_name kind.UnknownLabel = (8, codes "UnknownLabel")
number_and_name kind.BackwardLabel = (9, codes "BackwardLabel")
number_and_name kind.Number = (10, codes "Number")
number_and_name kind.Data = (11, codes "Data")
number_and_name kind.TooMany = (12, codes "TooMany")
number_and_name kind.Budget = (13, codes "Budget")
number_and_name kind.Unended = (14, codes "Unended")
number_and_name kind.OutOfMemory = (15, codes "OutOfMemory")

abbrev pub kind_number : ScriptKind → ℕ
kind_number found = (number_and_name found).0

abbrev pub kind_name : ScriptKind → List ℕ
kind_name found = (number_and_name found).1
