use Rattle.std.proofs.Common.{◌≡◌, ◌≤◌, take}
use Rattle.mc_claims.specs.ExplainsLaws.{move_count}
use Rattle.mc_why.proofs.moved.nth_move.Given as goal

abbrev pub invariant-moves : goal.invariant-moves
invariant-moves l = record {
  earlier : l.earlier ≡ move_count l.actor (take l.place l.moves);
  few : l.earlier ≤ l.count;
}
