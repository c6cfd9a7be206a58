use Rattle.std.proofs.Common.{◌≤◌, sym, subst, ◌∙◌, arith}
use Rattle.mc_protocol.specs.Decimals.{MAX_64}
use Rattle.mc_script.specs.WellFormed.{IsScript}
use Rattle.mc_generate.specs.Outputs.{outputs_of}
use Rattle.mc_generate.proofs.{Drawn.script-drawn, Formed.generated-formed}
use Rattle.mc_generate.proofs.script.generate_script.Goals as goal

pub new-requires : goal.new-requires
new-requires c =
    let small : c.args.job ≤ MAX_64 = omega arith in
    let drawn = script-drawn c.args.seed c.args.job c.new-generator.result (outputs_of c.draw_prefix.new.generator) (outputs_of c.draw_branch.new.generator)
    c.in_ok-names.names c.in_ok-p.p c.in_ok-a.a c.in_ok-b.b c.new-generator.ensures c.in_ok-names.ensures c.in_ok-p.ensures.prefix
    c.in_ok-p.ensures.rest c.in_ok-a.ensures.branch c.in_ok-a.ensures.rest c.in_ok-b.ensures.branch in
    subst IsScript (sym drawn) (generated-formed c.args.seed c.args.job small)

pub returns : goal.returns
returns c =
    c.new.ensures ∙ script-drawn c.args.seed c.args.job c.new-generator.result (outputs_of c.draw_prefix.new.generator) (outputs_of c.draw_branch.new.generator)
    c.in_ok-names.names c.in_ok-p.p c.in_ok-a.a c.in_ok-b.b c.new-generator.ensures c.in_ok-names.ensures c.in_ok-p.ensures.prefix
    c.in_ok-p.ensures.rest c.in_ok-a.ensures.branch c.in_ok-a.ensures.rest c.in_ok-b.ensures.branch
