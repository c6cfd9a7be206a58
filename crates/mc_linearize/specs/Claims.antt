-- What it means that an explanation explains a timeline.
use Rattle.std.specs.Prelude.{◌≡◌, ℕ, List, map}
use Rattle.mc_linearize.specs.declared.explanation.TimelineMove.{TimelineMove}
use Rattle.mc_timeline.specs.{Timelines.ClientNote, Timelines.operations_of, Explanations.Effected, Explanations.Explains}

-- the keys that held something, each with its number, and the order in which the clients' requests took effect
pub record TimelineClaim : Type 0 where
  pub start : List (List ℕ × ℕ)
  pub moves : List TimelineMove

-- what a move says of an operation that takes effect
abbrev pub move_of : Effected → TimelineMove
move_of e = record { client = e.operation.client; choice = e.choice; number = e.number }

-- the moves are those of operations that explain all operations of the timeline. Which operation of its client a move means
-- follows: each client's stand in their order
pub record ExplainsTimeline (notes : List ClientNote) (claim : TimelineClaim) : Type 0 where
  pub effected : List Effected
  pub moves : map move_of effected ≡ claim.moves
  pub explains : Explains (operations_of notes) claim.start effected
