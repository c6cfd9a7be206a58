use Rattle.mc_answers.proofs.loading.load_front.Goals as goal

pub returns-clause-fault : goal.returns-clause-fault
returns-clause-fault c =
    let is = c.in_ok-no_script-in-Err.ensures in
    rw is.0 (is.1, c.in-Err.ensures.none is.1)
