use Rattle.mc_generate.proofs.Less.{shrunk-same}
use Rattle.mc_generate.proofs.shrinker.Shrinker.new.Goals as goal

pub returns-clause-shrinking : goal.returns-clause-shrinking
returns-clause-shrinking c = (shrunk-same c.args.script c.steps.ensures.kept, λ tried e. absurd (cc e))
