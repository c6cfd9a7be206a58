use Rattle.std.proofs.Common.{subst}
use Rattle.mc_linearize.specs.Verdicts.{IsTrueOf}
use Rattle.mc_linearize.proofs.ByKeys.{unexplained_at}
use Rattle.mc_timeline.specs.Timelines.{restricted}
use Rattle.mc_shrink.proofs.leaving.Left.is_unexplained.Goals as goal
use Rattle.mc_shrink.proofs.leaving.Left.is_unexplained.Goals.{in-Unexplained, in_default}

pub returns-clause-unexplained : goal.returns-clause-unexplained
returns-clause-unexplained c = elim c.match-matches.branch [
  | in-Unexplained w ↦ λ is.
      let key = c.args.key.now in
      let part = c.args.part.now in
      let never = subst (IsTrueOf (restricted key part)) w.in-Unexplained.is c.in_ok-verdict.ensures.true_of in
      (unexplained_at key part c.notes.ensures.timeline never).together
  | in_default w ↦ λ is. let not = w.matches-is in absurd (cc)
]
