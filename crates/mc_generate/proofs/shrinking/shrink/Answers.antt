use Rattle.mc_generate.proofs.shrinking.shrink.Goals as goal

pub rounds-preserved : goal.rounds-preserved
rounds-preserved g c = c.answer.ensures.shrinking c.args.script (c.in_ok-checked.ensures.shrinking c.args.script c.rounds.invariant)

pub returns-clause-less : goal.returns-clause-less
returns-clause-less g c =
    (c.into_script.ensures.shrunk c.args.script (c.in_ok-checked.ensures.shrinking c.args.script c.rounds.invariant)).0

pub returns-clause-accepted : goal.returns-clause-accepted
returns-clause-accepted g c =
    (c.into_script.ensures.shrunk c.args.script (c.in_ok-checked.ensures.shrinking c.args.script c.rounds.invariant)).1
