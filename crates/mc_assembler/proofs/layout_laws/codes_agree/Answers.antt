use Rattle.mc_assembler.proofs.Agreeing.{code_agrees}
use Rattle.mc_assembler.proofs.layout_laws.codes_agree.Goals as goal

pub returns : goal.returns
returns c = code_agrees
