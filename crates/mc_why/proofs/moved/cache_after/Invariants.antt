use Rattle.std.proofs.Common.{◌≡◌, [], drop, take}
use Rattle.mc_claims.specs.Explains.{start_contents}
use Rattle.mc_why.specs.Answers.{moved_along}
use Rattle.mc_why.proofs.moved.cache_after.Given as goal

abbrev pub invariant-moving : goal.invariant-moving
invariant-moving l =
    moved_along l.history.sections (take l.index l.moves) (drop l.index l.moves) l.cache
    ≡ moved_along l.history.sections [] l.moves (start_contents l.start)
