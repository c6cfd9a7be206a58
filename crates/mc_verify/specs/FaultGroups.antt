-- Groups of kinds of faults that are looked for by the same tables: those of flags, and those of budgets. Private contracts
-- cite them.
use Rattle.std.specs.Prelude.{◌≡◌, ◌⊎◌, Bool, true, false}
use Rattle.mc_sound.specs.{declared.refusal_kind.RefusalKind.RefusalKind, declared.measure.Measure.Measure}
use Rattle.mc_sound.specs.declared.refusal_kind.RefusalKind.TheVariants as kind
use Rattle.mc_sound.specs.declared.measure.Measure.TheVariants as measure

-- the kind of fault where a send needs a flag to have this value, and it may have the other one
abbrev pub lack_kind : Bool → RefusalKind
lack_kind true = kind.FlagMayBeClear
lack_kind false = kind.FlagMayBeSet

-- a fault of flags
abbrev pub IsOfFlags : RefusalKind → Type 0
IsOfFlags k = (k ≡ kind.FlagMayBeClear) ⊎ (k ≡ kind.FlagMayBeSet)

-- the fault of a section that exceeds what its budget allows by the measure
abbrev pub kind_of : Measure → RefusalKind
kind_of measure.Requests = kind.TooManyRequests
kind_of measure.Bytes = kind.TooManyBytes

-- a fault of budgets
abbrev pub IsOfBudgets : RefusalKind → Type 0
IsOfBudgets k = (k ≡ kind.TooManyRequests) ⊎ (k ≡ kind.TooManyBytes)
