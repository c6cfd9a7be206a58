use Rattle.std.proofs.Common.{◌↔◌, List, ◌∷◌, length}
use Rattle.mc_history.specs.Series.{Series}
use Rattle.mc_linearize.specs.declared.explanation.TimelineMove.{TimelineMove}
use Rattle.mc_timeline_text.specs.TimelineParts.{moves, AfterMoves, SpellsMoves}
use Rattle.mc_timeline_text.proofs.moves.read_moves.Given as goal

abbrev pub invariant-moves : goal.invariant-moves
invariant-moves l = (all : List TimelineMove)
    → Series moves (AfterMoves all) l.moves.items (l.line.words ∷ l.lines.words) ↔ SpellsMoves (l.initial.line.words ∷ l.initial.lines.words) all

abbrev pub decreases-moves : goal.decreases-moves
decreases-moves l = length l.lines.words
