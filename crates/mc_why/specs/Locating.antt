-- What the private searches for a place find.
use Rattle.std.specs.Prelude.{◌+◌, ◌^◌, ◌<◌}
use Rattle.mc_model.specs.Notes.{History}
use Rattle.mc_why.specs.{declared.locating.Located.Located, Cuts.place_count, Causes.IsUnexplainedFrom}
use Rattle.mc_why.specs.declared.locating.Located.TheVariants as located

abbrev pub IsPlaceOf : History → Located → Type 0
IsPlaceOf h (located.At place claim) = IsUnexplainedFrom h place claim × (place + 1 < 2 ^ 64)
IsPlaceOf h (located.Undecided place) = (0 < place) × (place < place_count h)
