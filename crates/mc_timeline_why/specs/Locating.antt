-- What the private search for a place finds.
use Rattle.std.specs.Prelude.{◌<◌, ℕ, List, length}
use Rattle.mc_timeline.specs.Timelines.{ClientNote}
use Rattle.mc_timeline_why.specs.{TimelineCauses.IsUnexplainedAtPlace, declared.locating.Located.Located}
use Rattle.mc_timeline_why.specs.declared.locating.Located.TheVariants as located

abbrev pub IsPlaceOn : List ClientNote → List ℕ → Located → Type 0
IsPlaceOn notes key (located.At place claim) = IsUnexplainedAtPlace notes key place claim
IsPlaceOn notes key (located.Undecided place) = (0 < place) × (place < length notes)
