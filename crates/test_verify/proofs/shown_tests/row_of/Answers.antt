use Rattle.test_verify.proofs.NoStructure.{no_structure}
use Rattle.test_verify.proofs.shown_tests.row_of.Goals as goal

pub first_other-requires : goal.first_other-requires
first_other-requires c =
    let is = c.if-is_of_runs.true in
    no_structure c.args.code.now c.args.refusal.now c.requires (c.is_of_runs.ensures.low is) (c.is_of_runs.ensures.high is)
