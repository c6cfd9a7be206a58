use Rattle.mc_why.proofs.Answers.{moved_on}
use Rattle.mc_why.proofs.moved.cache_after.Goals as goal

pub moving-preserved : goal.moving-preserved
moving-preserved c =
    moved_on c.args.history.now.sections c.args.moves.now c.moving.index _ c.moving.cache c.make_move.new.cache _ c.moving-test.true
    c.in_ok-make_move.ensures c.moving.invariant
