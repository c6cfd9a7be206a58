use Rattle.std.proofs.Common.{◌≡◌, List}
use Rattle.std.specs.Arc.{arc_value}
use Rattle.mc_command.specs.{SoFar.IsSoFar, declared.run.Played.Played}
use Rattle.mc_command.proofs.repeating.first_runs.Given as goal

abbrev pub invariant-runs : goal.invariant-runs
invariant-runs g l = record {
  so_far : (all : List Played) × IsSoFar l.target.how.why (arc_value l.checked).code all l.runs;
  count : l.runs.totals.runs ≡ l.done;
  last : l.runs.number ≡ l.runs.totals.runs;
}
