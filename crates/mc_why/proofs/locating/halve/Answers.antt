use Rattle.std.proofs.Common.{sym, subst, arith}
use Rattle.mc_history.specs.Claim.{Claim}
use Rattle.mc_claims.specs.Explains.{Explains}
use Rattle.mc_why.specs.{Cuts.cut, Causes.IsUnexplainedFrom}
use Rattle.mc_why.proofs.Places.{end_unexplained, halves_meet, start_explained}
use Rattle.mc_why.proofs.locating.halve.Goals as goal

pub halving-init : goal.halving-init
halving-init c = record {
  order = omega arith;
  within = omega arith;
  before = subst (λ (claim : Claim). Explains (cut 0 c.args.history.now) claim) (sym c.no_moves-explanation.ensures) (start_explained c.args.history.now);
  none = end_unexplained c.args.history.now c.args.count c.requires.history c.requires.unexplained (omega arith);
}

pub returns : goal.returns
returns c =
    let from : IsUnexplainedFrom c.args.history.now c.halving.explained c.halving.explanation =
    halves_meet c.args.history.now c.halving.explained c.halving.unexplained c.halving.explanation c.requires.history c.requires.notes
    c.halving.invariant.order
    (omega arith)
    (omega arith)
    c.halving.invariant.before c.halving.invariant.none in
    (from, omega (arith, from.within))
