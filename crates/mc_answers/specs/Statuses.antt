-- The exit statuses.
use Rattle.std.specs.Prelude.{ℕ, Bool, true, false}
use Rattle.mc_answers.specs.declared.status.Status.{Status}
use Rattle.mc_answers.specs.declared.status.Status.TheVariants as status

abbrev pub status_number : Status → ℕ
status_number status.Success = 0
status_number status.Unexplained = 1
status_number status.WrongLine = 2
status_number status.Refused = 3
status_number status.NoAnswer = 4

abbrev pub is_success : Status → Bool
is_success status.Success = true
is_success status.Unexplained = false
is_success status.WrongLine = false
is_success status.Refused = false
is_success status.NoAnswer = false

-- the status of two parts together: 1 goes before 4, and 4 before 0
abbrev pub joined : Status → Status → Status
joined status.Success other = other
joined status.Unexplained other = status.Unexplained
joined status.WrongLine other = status.WrongLine
joined status.Refused other = status.Refused
joined status.NoAnswer status.Unexplained = status.Unexplained
joined status.NoAnswer status.Success = status.NoAnswer
joined status.NoAnswer status.WrongLine = status.NoAnswer
joined status.NoAnswer status.Refused = status.NoAnswer
joined status.NoAnswer status.NoAnswer = status.NoAnswer
