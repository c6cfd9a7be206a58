-- What `join` answers to reports.
use Rattle.std.specs.Prelude.{◌≡◌, ◌⊎◌, ℕ, List}
use Rattle.mc_join.specs.{Refusals.refusal_text, declared.fault.ReportKind.ReportKind}
use Rattle.mc_answers.specs.declared.status.Status.{Status}
use Rattle.mc_answers.specs.declared.status.Status.TheVariants as status

-- the status of a report
abbrev pub IsReportStatus : Status → Type 0
IsReportStatus ended = (ended ≡ status.Success) ⊎ ((ended ≡ status.Unexplained) ⊎ (ended ≡ status.NoAnswer))

-- a report may have any bytes, with the status of one; reports that make no whole are refused
abbrev pub Joins : List ℕ → Status → Type 0
Joins output ended = IsReportStatus ended
    ⊎ ((kind : ReportKind) × (line : ℕ) × (output ≡ refusal_text kind line) × (ended ≡ status.Refused))
