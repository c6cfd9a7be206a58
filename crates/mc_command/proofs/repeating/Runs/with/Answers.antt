use Rattle.std.proofs.Common.{◌∙◌, ap, refl, sym}
use Rattle.std.proofs.{lemmas.Bool.false≢true, lemmas.List.Elements.All-push}
use Rattle.mc_command.specs.{RepeatAnswers.IsRightUnder, RepeatAnswers.succeeds, RunAnswers.IsRightFor, declared.totals.Totals.Totals}
use Rattle.mc_command.proofs.MoreRuns.{failed_by, kept, last_settled, replaced, settled_before, succeeded_by}
use Rattle.mc_command.proofs.repeating.Runs.with.Goals as goal

pub returns-then-has_failed-clause-so_far : goal.returns-then-has_failed-clause-so_far
returns-then-has_failed-clause-so_far c why code all so short right first own =
    let failed = failed_by (succeeds c.args.self.played) _ c.has_failed.ensures c.if-has_failed.true in
    record {
      right = All-push (IsRightUnder why code) all c.args.played so.right right;
      own = λ settled. let before = settled_before all c.args.played settled in
          All-push (IsRightFor why code) all c.args.played (so.own before) (first before);
      shown = so.shown;
      settled = λ settled. c.leaves_request-unsettled.ensures ∙ last_settled all c.args.played settled;
      hands_out = kept all c.args.played c.args.self.number c.args.self.played so.hands_out failed;
      totals = c.with-totals.ensures all short so.totals;
    }

pub returns-clause-so_far : goal.returns-clause-so_far
returns-clause-so_far c why code all so short right first own =
    let succeeded = succeeded_by (succeeds c.args.self.played) _ c.has_failed.ensures c.if-has_failed.false in
    let totals = c.with-totals.ensures all short so.totals in
    record {
      right = All-push (IsRightUnder why code) all c.args.played so.right right;
      own = λ settled. let before = settled_before all c.args.played settled in
          All-push (IsRightFor why code) all c.args.played (so.own before) (first before);
      shown = own succeeded;
      settled = λ settled. c.leaves_request-unsettled.ensures ∙ last_settled all c.args.played settled;
      hands_out = replaced all c.args.played c.args.self.number c.args.self.played so.hands_out succeeded _ (ap (λ (t : Totals). t.runs) totals);
      totals = totals;
    }

pub returns-then-has_failed-clause-first : goal.returns-then-has_failed-clause-first
returns-then-has_failed-clause-first c succeeded = succeeded

pub returns-clause-first : goal.returns-clause-first
returns-clause-first c succeeded = succeeded_by (succeeds c.args.self.played) _ c.has_failed.ensures c.if-has_failed.false

pub returns-then-has_failed-clause-same : goal.returns-then-has_failed-clause-same
returns-then-has_failed-clause-same c failed = (refl, refl)

pub returns-clause-same : goal.returns-clause-same
returns-clause-same c failed =
    absurd (false≢true (sym failed ∙ succeeded_by (succeeds c.args.self.played) _ c.has_failed.ensures c.if-has_failed.false))
