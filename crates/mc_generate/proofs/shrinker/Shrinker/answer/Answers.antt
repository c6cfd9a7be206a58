use Rattle.std.proofs.Common.{sym}
use Rattle.mc_generate.proofs.shrinker.Shrinker.answer.Goals as goal

pub returns-then-unexplained-clause-shrinking : goal.returns-then-unexplained-clause-shrinking
returns-then-unexplained-clause-shrinking c first h =
    (h.1 c.in-Some.less (sym c.in-Some.ensures.value), λ tried e. absurd (cc (c.in-Some.ensures.after, e)))
