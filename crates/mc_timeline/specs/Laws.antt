-- The locality of explanations (Herlihy and Wing, 1990).
use Rattle.std.specs.Prelude.{◌≡◌, ℕ, true, ◌↔◌, List}
use Rattle.mc_timeline.specs.Timelines.{ClientNote, is_in_order, operations_of, restricted}
use Rattle.mc_timeline.specs.{Members.IsIn, Operations.Operation, Operations.on_key, Explanations.IsExplained, Rules.IsTimeline}

-- operations have an explanation exactly if those on each of their keys have one
abbrev pub Locality : Type 0
Locality =
    (operations : List Operation)
    → IsExplained operations ↔ ((x : Operation) → IsIn x operations → IsExplained (on_key x.request.key operations))

-- a timeline has an explanation exactly if its restriction to each of its keys has one
abbrev pub LocalityOfTimelines : Type 0
LocalityOfTimelines =
    (notes : List ClientNote) → is_in_order notes ≡ true
    → IsExplained (operations_of notes)
    ↔ ((x : Operation) → IsIn x (operations_of notes) → IsExplained (operations_of (restricted x.request.key notes)))

-- the restriction of notes that are in order is in order
abbrev pub RestrictionsKeepOrder : Type 0
RestrictionsKeepOrder =
    (notes : List ClientNote) (key : List ℕ) → is_in_order notes ≡ true → is_in_order (restricted key notes) ≡ true

-- a timeline is in order
abbrev pub TimelinesAreInOrder : Type 0
TimelinesAreInOrder = (notes : List ClientNote) → IsTimeline notes → is_in_order notes ≡ true

-- the restriction of a timeline to a key is a timeline
abbrev pub RestrictionsAreTimelines : Type 0
RestrictionsAreTimelines = (notes : List ClientNote) (key : List ℕ) → IsTimeline notes → IsTimeline (restricted key notes)
