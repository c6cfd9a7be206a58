-- How the sections of a run ended: what is written of it, and the exit status after it.
use Rattle.std.specs.Prelude.{ℕ, List, ◌++◌, codes, decimal}
use Rattle.mc_protocol.specs.{Faults.fault_name, Faults.fault_number, Words.actor_word, declared.actor.Actor.Actor}
use Rattle.mc_protocol.specs.{declared.fault.Fault.Fault, declared.sections.Sections.Sections}
use Rattle.mc_protocol.specs.declared.actor.Actor.TheVariants as actor
use Rattle.mc_protocol.specs.declared.fault.Fault.TheVariants as fault
use Rattle.mc_core.specs.declared.ending.Ending.{Ending}
use Rattle.mc_core.specs.declared.ending.Ending.TheVariants as ending
use Rattle.mc_explain.specs.declared.verdict.Verdict.{Verdict}
use Rattle.mc_answers.specs.{Statuses.joined, Verdicts.verdict_status, declared.status.Status.Status}
use Rattle.mc_answers.specs.declared.status.Status.TheVariants as status

-- how a section stands; of a fault its number and its name
abbrev pub ending_words : Ending → List ℕ
ending_words ending.NotBegun = codes " not begun\n"
ending_words ending.Running = codes " running\n"
ending_words ending.Done = codes " done\n"
ending_words (ending.Failed found) =
    codes " failed " ++ (decimal (fault_number found) ++ (codes " " ++ (fault_name found ++ codes "\n")))

abbrev pub ending_line : Actor → Ending → List ℕ
ending_line section found = actor_word section ++ ending_words found

-- the lines of the three sections
abbrev pub endings_text : Sections Ending → List ℕ
endings_text found = ending_line actor.P found.p ++ (ending_line actor.A found.a ++ ending_line actor.B found.b)

-- ---- the exit status

-- what a fault alone makes of it: what came and was no reply speaks against the server, any other fault for nothing
abbrev pub fault_status : Fault → Status
fault_status fault.WriteFailed = status.NoAnswer
fault_status fault.ReadFailed = status.NoAnswer
fault_status fault.Ended = status.NoAnswer
fault_status fault.BadReply = status.Unexplained
fault_status fault.ErrorLine = status.NoAnswer
fault_status fault.TooMuch = status.NoAnswer
fault_status fault.Closed = status.NoAnswer
fault_status fault.Memory = status.NoAnswer

-- what a section alone makes of it
abbrev pub ending_status : Ending → Status
ending_status ending.NotBegun = status.NoAnswer
ending_status ending.Running = status.NoAnswer
ending_status ending.Done = status.Success
ending_status (ending.Failed found) = fault_status found

-- the status after a run, by its three sections and the verdict on its history
abbrev pub run_status : Sections Ending → Verdict → Status
run_status found v =
    joined (joined (joined (verdict_status v) (ending_status found.p)) (ending_status found.a)) (ending_status found.b)
