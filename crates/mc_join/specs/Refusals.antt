-- What is written of reports that make no whole.
use Rattle.std.specs.Prelude.{ℕ, List, ◌++◌, codes, decimal}
use Rattle.mc_join.specs.declared.fault.ReportKind.{ReportKind}
use Rattle.mc_join.specs.declared.fault.ReportKind.TheVariants as kind

abbrev pub kind_number : ReportKind → ℕ
kind_number kind.Line = 1
kind_number kind.Mixed = 2
kind_number kind.Totals = 3
kind_number kind.Campaign = 4
kind_number kind.Missing = 5
kind_number kind.Doubled = 6
kind_number kind.Unended = 7

abbrev pub kind_name : ReportKind → List ℕ
kind_name kind.Line = codes "Line"
kind_name kind.Mixed = codes "Mixed"
kind_name kind.Totals = codes "Totals"
kind_name kind.Campaign = codes "Campaign"
kind_name kind.Missing = codes "Missing"
kind_name kind.Doubled = codes "Doubled"
kind_name kind.Unended = codes "Unended"

-- the number and the name of the fault, and its line
abbrev pub refusal_text : ReportKind → ℕ → List ℕ
refusal_text found line =
    codes "refused report " ++ (decimal (kind_number found) ++ (codes " " ++ (kind_name found
    ++ (codes " line " ++ (decimal line ++ codes "\n")))))
