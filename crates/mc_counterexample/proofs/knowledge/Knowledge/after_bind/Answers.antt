use Rattle.std.proofs.Common.{ℕ, slice_set, ap, ◌∙◌}
use Rattle.mc_counterexample.specs.{KindReplays.state_of, declared.knowledge.Knowledge.Knowledge}
use Rattle.mc_counterexample.proofs.KindStates.{bound_known, unbound_known}
use Rattle.mc_counterexample.proofs.knowledge.Knowledge.after_bind.Goals as goal

pub returns-in-Unbound : goal.returns-in-Unbound
returns-in-Unbound c code below = unbound_known code c.args.self.now c.args.variable c.in-Unbound.is

pub returns-in_default : goal.returns-in_default
returns-in_default c code below =
    let variables = c.args.self.now.variables in
    let last = c.args.self.now.last in
    ap (λ (v : ℕ). let known : Knowledge = record { variables = slice_set variables v last; last = last } in state_of code known) c.from.ensures
    ∙ bound_known code variables last c.args.variable below c.in_default.not-Unbound
