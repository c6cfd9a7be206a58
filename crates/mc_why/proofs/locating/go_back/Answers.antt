use Rattle.std.proofs.Common.{◌-◌, sym, subst, arith}
use Rattle.mc_history.specs.Claim.{Claim}
use Rattle.mc_claims.specs.Explains.{Explains}
use Rattle.mc_explain.specs.{Hopeless.IsUnexplained, Verdicts.IsTrueOf, declared.verdict.Verdict.Verdict}
use Rattle.mc_why.specs.{Cuts.cut, Causes.IsUnexplainedFrom}
use Rattle.mc_why.proofs.Places.{back_at, back_at_start, back_more, end_unexplained}
use Rattle.mc_why.proofs.locating.go_back.Goals as goal

pub going_back-init : goal.going_back-init
going_back-init c = record {
  within = omega arith;
  onward = λ n few. end_unexplained c.args.history.now n c.requires.history c.requires.unexplained (omega arith);
}

pub returns-in-Explained : goal.returns-in-Explained
returns-in-Explained c =
    let place = c.going_back.place - 1 in
    let explains : Explains (cut place c.args.history.now) c.in-Explained.explanation =
    subst (λ (v : Verdict). IsTrueOf (cut place c.args.history.now) v) c.in-Explained.is c.in_ok-explanation.ensures in
    (back_at c.args.history.now place c.in-Explained.explanation (omega arith) explains (λ n more. c.going_back.invariant.onward n (omega arith)), omega arith)

pub going_back-preserved : goal.going_back-preserved
going_back-preserved c =
    let place = c.going_back.place - 1 in
    let none : IsUnexplained (cut place c.args.history.now) =
    subst (λ (v : Verdict). IsTrueOf (cut place c.args.history.now) v) c.in-Unexplained.is c.in_ok-explanation.ensures in
    record {
      within = omega arith;
      onward = back_more c.args.history.now place none (λ n more. c.going_back.invariant.onward n (omega arith));
    }

pub returns : goal.returns
returns c = (
  subst (λ (claim : Claim). IsUnexplainedFrom c.args.history.now 0 claim) (sym c.no_moves.ensures)
      (back_at_start c.args.history.now c.going_back.place (omega arith) (omega arith) c.going_back.invariant.onward),
  omega arith,
)
