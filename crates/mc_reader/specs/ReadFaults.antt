-- The numbers and names of faults.
use Rattle.std.specs.Prelude.{ℕ, List, codes}
use Rattle.mc_reader.specs.declared.fault.ErrorKind.TheVariants.{Error, Client, Server}
use Rattle.mc_reader.specs.{declared.fault.ErrorKind.ErrorKind, declared.fault.ReadFault.ReadFault}
use Rattle.mc_reader.specs.declared.fault.ReadFault.TheVariants as fault

abbrev pub fault_number : ReadFault → ℕ
fault_number fault.LineTooLong = 1
fault_number fault.NotAReply = 2
fault_number fault.WrongKey = 3
fault_number fault.NumberTooLarge = 4
fault_number fault.DataTooLong = 5
fault_number fault.DataNotEnded = 6
fault_number (fault.ErrorLine kind) = 7
fault_number fault.OutOfMemory = 8
fault_number fault.Failed = 9

abbrev pub fault_name : ReadFault → List ℕ
fault_name fault.LineTooLong = codes "LineTooLong"
fault_name fault.NotAReply = codes "NotAReply"
fault_name fault.WrongKey = codes "WrongKey"
fault_name fault.NumberTooLarge = codes "NumberTooLarge"
fault_name fault.DataTooLong = codes "DataTooLong"
fault_name fault.DataNotEnded = codes "DataNotEnded"
fault_name (fault.ErrorLine kind) = codes "ErrorLine"
fault_name fault.OutOfMemory = codes "OutOfMemory"
fault_name fault.Failed = codes "Failed"

-- the word with which a line reports an error (protocol.txt)
abbrev pub error_word : ErrorKind → List ℕ
error_word Error = codes "ERROR"
error_word Client = codes "CLIENT_ERROR"
error_word Server = codes "SERVER_ERROR"
