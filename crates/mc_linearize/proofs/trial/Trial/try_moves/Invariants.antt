use Rattle.std.proofs.Common.{◌↔◌, ◌<◌, ◌^◌, drop, take}
use Rattle.std.specs.List.{All}
use Rattle.mc_linearize.specs.{declared.explanation.TimelineMove.TimelineMove, Trials.Tries}
use Rattle.mc_linearize.proofs.trial.Trial.try_moves.Given as goal

-- what is left can be tried from here exactly if all can from the start
abbrev pub invariant-moves : goal.invariant-moves
invariant-moves l = record {
  tries : Tries l.self (drop l.by-index l.moves) ↔ Tries l.initial.self l.moves;
  fit : All (λ (move : TimelineMove). move.number < 2 ^ 64) (take l.by-index l.moves);
}
