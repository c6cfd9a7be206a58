-- The number and the name of each kind of fault of a history, as a refusal shows them.
use Rattle.std.specs.Prelude.{ℕ, List, codes}
use Rattle.mc_model.specs.declared.rules.HistoryKind.{HistoryKind}
use Rattle.mc_model.specs.declared.rules.HistoryKind.TheVariants as kind

abbrev pub number_and_name : HistoryKind → ℕ × List ℕ
number_and_name kind.Header = (1, codes "Header")
number_and_name kind.Line = (2, codes "Line")
number_and_name kind.Number = (3, codes "Number")
number_and_name kind.Order = (4, codes "Order")
number_and_name kind.WrongReply = (5, codes "WrongReply")
number_and_name kind.NotCleared = (6, codes "NotCleared")
number_and_name kind.UnseenNumber = (7, codes "UnseenNumber")
number_and_name kind.TooMany = (8, codes "TooMany")
number_and_name kind.Unended = (9, codes "Unended")
number_and_name kind.OutOfMemory = (10, codes "OutOfMemory")

abbrev pub kind_number : HistoryKind → ℕ
kind_number found = (number_and_name found).0

abbrev pub kind_name : HistoryKind → List ℕ
kind_name found = (number_and_name found).1
