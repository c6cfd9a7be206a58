use Rattle.std.proofs.Common.{◌≡◌, slice_get, Some, sym, subst}
use Rattle.std.proofs.lemmas.Option.{slice_get-get_or}
use Rattle.mc_code.specs.Calls.{no_template}
use Rattle.mc_flow.specs.CostTables.{weights_of}
use Rattle.mc_sound.specs.declared.measure.Measure.TheVariants as measure
use Rattle.mc_flow.proofs.CallCosts.{weight_at}
use Rattle.mc_flow.proofs.weights.call_cost.Goals as goal

pub returns-in-Requests-clause-weight : goal.returns-in-Requests-clause-weight
returns-in-Requests-clause-weight c =
    let at = slice_get-get_or c.args.code.now.templates c.args.template no_template c.requires in
    subst (λ measure. slice_get (weights_of c.args.code.now measure) c.args.template ≡ Some 1) (sym c.in-Requests.is)
    (weight_at c.args.code.now measure.Requests c.args.template _ at)
