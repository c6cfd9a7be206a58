use Rattle.std.proofs.Common.{◌<◌, length, sym, subst}
use Rattle.mc_script.specs.Script.{Script, section_of}
use Rattle.mc_script.proofs.WithoutStep.{made-without}
use Rattle.mc_script.proofs.without_step.without.Goals as goal

pub invariant_of-result : goal.invariant_of-result
invariant_of-result c =
    let inside : Script = record { names = c.script.inside.names; sections = c.script.inside.sections } in
    let below = subst (λ (s : Script). c.args.step < length (section_of s c.args.actor).steps) (sym c.script.view_is) c.requires in
    made-without inside c.in_ok-names.names c.in_ok-sections.sections c.args.actor c.args.step c.in_ok-names.ensures c.in_ok-sections.ensures below
    c.script.invariant
