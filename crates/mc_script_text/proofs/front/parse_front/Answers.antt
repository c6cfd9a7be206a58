use Rattle.std.proofs.lemmas.Result.{err_from_is_err_and}
use Rattle.mc_script_text.proofs.Fronts.{front-spells, front-spelled}
use Rattle.mc_script_text.proofs.front.parse_front.Goals as goal

pub returns-in_err-script-clause-none : goal.returns-in_err-script-clause-none
returns-in_err-script-clause-none c =
    let p = err_from_is_err_and c.from_residual-in_err-script.result c.from_residual-in_err-script.ensures.1 in
    rw (p.1, p.2) (λ real script size spelled.
    let front = front-spells c.args.text.now c.in_ok-front.front.now script size c.in_ok-front.ensures spelled in
    c.in_err-script.ensures.none real script front)

pub returns-clause-found : goal.returns-clause-found
returns-clause-found c =
    front-spelled c.args.text.now c.in_ok-front.front.now c.in_ok-script.script c.in_ok-front.ensures c.in_ok-script.ensures.found
