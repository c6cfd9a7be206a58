use Rattle.std.proofs.Common.{◌≡◌, ◌<◌, ◌≤◌, ℕ, false, IfSome, List, None, Some, length}
use Rattle.std.specs.Arc.{arc_value}
use Rattle.mc_command.specs.{RepeatAnswers.AreSettled, RepeatAnswers.IsUnderSome, RepeatAnswers.succeeds, SoFar.IsSoFar, declared.run.Played.Played}
use Rattle.mc_command.proofs.repeating.go_on.Given as goal

abbrev pub invariant-runs : goal.invariant-runs
invariant-runs g l = record {
  so_far : (all : List Played) × IsSoFar l.target.how.why (arc_value l.checked).code all l.runs × (AreSettled all → l.renaming.under ≡ None)
      × ((most : ℕ) → l.repeat.times ≡ Some most → 0 < most → length all ≤ most);
  count : l.runs.totals.runs ≡ l.done;
  number : l.runs.number ≡ l.fn.first.number;
  played : l.runs.played ≡ l.fn.first.played;
  failed : succeeds l.runs.played ≡ false;
  under : IfSome l.renaming.under (λ under. IsUnderSome (arc_value l.checked).code (arc_value under).code);
}
