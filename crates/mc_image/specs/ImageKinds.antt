-- The number and the name of each kind of fault in an image, as a refusal shows them.
use Rattle.std.specs.Prelude.{ℕ, List, codes}
use Rattle.mc_image.specs.declared.fault.ImageKind.{ImageKind}
use Rattle.mc_image.specs.declared.fault.ImageKind.TheVariants as kind

abbrev pub number_and_name : ImageKind → ℕ × List ℕ
number_and_name kind.Magic = (1, codes "Magic")
number_and_name kind.Short = (2, codes "Short")
number_and_name kind.Range = (3, codes "Range")
number_and_name kind.Template = (4, codes "Template")
number_and_name kind.Extra = (5, codes "Extra")
number_and_name kind.OutOfMemory = (6, codes "OutOfMemory")

abbrev pub kind_number : ImageKind → ℕ
kind_number found = (number_and_name found).0

abbrev pub kind_name : ImageKind → List ℕ
kind_name found = (number_and_name found).1
