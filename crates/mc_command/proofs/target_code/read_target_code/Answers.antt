use Rattle.std.proofs.lemmas.Result.{IfErr-weaker}
use Rattle.mc_command.proofs.Unplayed.{by_name}
use Rattle.mc_command.proofs.target_code.read_target_code.Goals as goal

pub returns-in-Some-clause-refused : goal.returns-in-Some-clause-refused
returns-in-Some-clause-refused c =
    rw c.in-Some.is (IfErr-weaker c.put_code_under.result _ _
    (λ found is. by_name c.args.target.now.how.why _ c.args.text.now _ found c.in-Ok.ensures.code is) c.put_code_under.ensures.refused)
