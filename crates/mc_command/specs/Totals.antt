-- What the runs of a script came to, counted.
use Rattle.std.specs.Prelude.{ℕ, Bool, true, false, ◌||◌, List, ◌++◌, length, codes, decimal, count_by, if◌then◌else◌}
use Rattle.mc_protocol.specs.declared.sections.Sections.{Sections}
use Rattle.mc_core.specs.declared.ending.Ending.{Ending}
use Rattle.mc_core.specs.declared.ending.Ending.TheVariants as ending
use Rattle.mc_explain.specs.declared.verdict.Verdict.{Verdict}
use Rattle.mc_explain.specs.declared.verdict.Verdict.TheVariants as verdict
use Rattle.mc_command.specs.declared.totals.RunClass.{RunClass}
use Rattle.mc_command.specs.{Overlaps.overlaps, declared.run.Played.Played, declared.totals.Totals.Totals}
use Rattle.mc_command.specs.declared.run.Played.TheVariants as played
use Rattle.mc_command.specs.declared.totals.RunClass.TheVariants as class

-- ---- what a run counts as

abbrev pub is_failed : Ending → Bool
is_failed ending.NotBegun = false
is_failed ending.Running = false
is_failed ending.Done = false
is_failed (ending.Failed fault) = true

-- a section failed
abbrev pub has_failure : Sections Ending → Bool
has_failure found = is_failed found.p || (is_failed found.a || is_failed found.b)

abbrev pub failed_or : Bool → RunClass → RunClass
failed_or failed other = if failed then class.Failed else other

-- unexplained if no order explains a run; else failed, if a section of it failed; else explained, if an order explains it
abbrev pub class_by : Bool → Verdict → RunClass
class_by failed (verdict.Explained claim) = failed_or failed class.Explained
class_by failed verdict.Unexplained = class.Unexplained
class_by failed verdict.Undecided = failed_or failed class.Other

-- what a run counts as, by its verdict and by how its sections ended
abbrev pub class_of : Played → RunClass
class_of (played.Ended held h found told) = class_by (has_failure held.endings) found
class_of (played.NoConnection section) = class.Other
class_of played.NotRun = class.Other

abbrev pub is_same_class : RunClass → RunClass → Bool
is_same_class class.Explained class.Explained = true
is_same_class class.Unexplained class.Unexplained = true
is_same_class class.Other class.Other = true
is_same_class class.Failed class.Failed = true
is_same_class _ _ = false

abbrev pub counts_as : RunClass → Played → Bool
counts_as wanted run = is_same_class wanted (class_of run)

-- ---- totals

-- a request of A and one of B were outstanding at once
abbrev pub is_overlapped : Played → Bool
is_overlapped (played.Ended held h found told) = overlaps held.world.notes
is_overlapped (played.NoConnection section) = false
is_overlapped played.NotRun = false

-- how many runs there are, how many of them are of each class, and how many are overlapped
abbrev pub totals_of : List Played → Totals
totals_of runs = record {
  runs = length runs;
  explained = count_by (counts_as class.Explained) runs;
  unexplained = count_by (counts_as class.Unexplained) runs;
  other = count_by (counts_as class.Other) runs;
  overlapped = count_by is_overlapped runs;
  failed = count_by (counts_as class.Failed) runs;
}

abbrev pub classes_text : Totals → List ℕ
classes_text totals =
    codes "explained " ++ (decimal totals.explained ++ (codes " unexplained " ++ (decimal totals.unexplained
    ++ (codes " other " ++ decimal totals.other))))

abbrev pub totals_line : Totals → List ℕ
totals_line totals =
    codes "runs " ++ (decimal totals.runs ++ (codes " " ++ (classes_text totals
    ++ (codes " overlapped " ++ (decimal totals.overlapped
    ++ (codes " failed " ++ (decimal totals.failed ++ codes "\n")))))))
