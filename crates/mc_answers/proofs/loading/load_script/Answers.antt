use Rattle.mc_answers.proofs.loading.load_script.Goals as goal

pub returns-in_ok-no_script-in-Err : goal.returns-in_ok-no_script-in-Err
returns-in_ok-no_script-in-Err c =
    let is = c.in_ok-no_script-in-Err.ensures in
    rw is.0 (is.1, c.in-Err.ensures.none is.1)
