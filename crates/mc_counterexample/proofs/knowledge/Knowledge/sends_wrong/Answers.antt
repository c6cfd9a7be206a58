use Rattle.std.proofs.Common.{slice_index_or, ap, ◌∙◌}
use Rattle.mc_code.specs.declared.kind.Kind.TheVariants as kind
use Rattle.mc_counterexample.proofs.KindStates.{wrong_known}
use Rattle.mc_counterexample.proofs.knowledge.Knowledge.sends_wrong.Goals as goal

pub returns-in-Variable : goal.returns-in-Variable
returns-in-Variable c code below =
    let v = c.in-Variable.variable in
    let own = slice_index_or c.args.self.now.variables c.from.result kind.Unbound in
    let own_is = ap (λ v. slice_index_or c.args.self.now.variables v kind.Unbound) c.from.ensures in
    c.is_wrong.ensures ∙ wrong_known code c.args.kind c.args.template.now v c.args.self.now own c.in-Variable.is (below v c.in-Variable.is) own_is
