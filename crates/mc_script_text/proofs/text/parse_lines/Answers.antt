use Rattle.std.proofs.lemmas.Result.{err_from_is_err_and}
use Rattle.mc_script_text.proofs.Readings.{none_spelled}
use Rattle.mc_script_text.proofs.text.parse_lines.Goals as goal

pub returns-in_err-script-clause-none : goal.returns-in_err-script-clause-none
returns-in_err-script-clause-none c =
    let p = err_from_is_err_and c.from_residual.result c.from_residual.ensures.1 in
    rw (p.1, p.2) (λ real. none_spelled c.args.text.now (c.in_err-script.ensures.read real))
