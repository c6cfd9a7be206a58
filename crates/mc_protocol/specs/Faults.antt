-- The numbers and names of faults.
use Rattle.std.specs.Prelude.{◌≡◌, ℕ, Option, Some, None, List, codes}
use Rattle.mc_protocol.specs.declared.fault.Fault.{Fault}
use Rattle.mc_protocol.specs.declared.fault.Fault.TheVariants.{WriteFailed, ReadFailed, Ended, BadReply, ErrorLine, TooMuch, Closed, Memory}

-- the number and the name
abbrev pub number_and_name : Fault → ℕ × List ℕ
number_and_name WriteFailed = (1, codes "WriteFailed")
number_and_name ReadFailed = (2, codes "ReadFailed")
number_and_name Ended = (3, codes "Ended")
number_and_name BadReply = (4, codes "BadReply")
number_and_name ErrorLine = (5, codes "ErrorLine")
number_and_name TooMuch = (6, codes "TooMuch")
number_and_name Closed = (7, codes "Closed")
number_and_name Memory = (8, codes "Memory")

abbrev pub fault_number : Fault → ℕ
fault_number fault = (number_and_name fault).0

abbrev pub fault_name : Fault → List ℕ
fault_name fault = (number_and_name fault).1

-- the fault of this number, or none where no fault has it
abbrev pub IsOfNumber : ℕ → Option Fault → Type 0
IsOfNumber number None = (fault : Fault) → number ≡ fault_number fault → ⊥
IsOfNumber number (Some fault) = number ≡ fault_number fault
