-- A search of one key need not try numbers.
use Rattle.std.specs.Prelude.{◌≡◌, ℕ, None, Some, List}
use Rattle.mc_timeline.specs.Timelines.{ClientNote, operations_of}
use Rattle.mc_timeline.specs.{Explanations.IsExplained, Members.IsIn, Operations.Operation, Rules.IsTimeline}
use Rattle.mc_linearize.specs.{Points.IsHopeless, Points.held_at_start, Points.start_point, Standing.AreQueues}

-- where no moves lead to an end, whether something was at the key at the start or not, nothing explains a timeline on one key
abbrev pub HopelessIsUnexplained : Type 0
HopelessIsUnexplained =
    (notes : List ClientNote) (all : List (List Operation)) (key : List ℕ) → IsTimeline notes → AreQueues notes all
    → ((x : Operation) → IsIn x (operations_of notes) → x.request.key ≡ key) → IsHopeless all (start_point all None)
    → IsHopeless all (start_point all (Some held_at_start)) → IsExplained (operations_of notes) → ⊥
