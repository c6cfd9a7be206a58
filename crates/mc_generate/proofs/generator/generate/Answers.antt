use Rattle.std.proofs.Common.{ap, ◌∙◌}
use Rattle.mc_assembler.specs.Layout.{code_of}
use Rattle.mc_generate.specs.Generated.{generated}
use Rattle.mc_generate.proofs.RefusalFacts.{script-refused}
use Rattle.mc_generate.proofs.generator.generate.Goals as goal

pub returns-clause-refused : goal.returns-clause-refused
returns-clause-refused c =
    script-refused (generated c.args.seed c.args.job) c.in_ok-code.code c.verify_code.result
    (c.in_ok-code.ensures.code ∙ ap code_of c.in_ok-script.ensures) c.verify_code.ensures.refused
