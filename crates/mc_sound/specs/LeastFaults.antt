-- The numbers and names of the kinds of faults, the order of faults, and the least one.
use Rattle.std.specs.Prelude.{◌≡◌, ◌⊎◌, ℕ, ◌<◌, ◌≤◌, List, codes}
use Rattle.mc_protocol.specs.declared.actor.Actor.{Actor}
use Rattle.mc_protocol.specs.declared.actor.Actor.TheVariants as actor
use Rattle.mc_code.specs.Code.{Code}
use Rattle.mc_sound.specs.{Faults.IsFault, Faults.HasNone, declared.code_fault.CodeFault.CodeFault}
use Rattle.mc_sound.specs.declared.refusal_kind.RefusalKind.{RefusalKind}
use Rattle.mc_sound.specs.declared.refusal_kind.RefusalKind.TheVariants as kind

-- ---- kinds, as they are shown

abbrev pub kind_number : RefusalKind → ℕ
kind_number kind.BadTarget = 1
kind_number kind.BadIndex = 2
kind_number kind.NoHalt = 3
kind_number kind.NotCleared = 4
kind_number kind.Unbound = 5
kind_number kind.WrongKind = 6
kind_number kind.NothingToBind = 7
kind_number kind.FlagMayBeClear = 8
kind_number kind.FlagMayBeSet = 9
kind_number kind.TooManyRequests = 10
kind_number kind.TooManyBytes = 11
kind_number kind.OutOfMemory = 12

abbrev pub kind_name : RefusalKind → List ℕ
kind_name kind.BadTarget = codes "BadTarget"
kind_name kind.BadIndex = codes "BadIndex"
kind_name kind.NoHalt = codes "NoHalt"
kind_name kind.NotCleared = codes "NotCleared"
kind_name kind.Unbound = codes "Unbound"
kind_name kind.WrongKind = codes "WrongKind"
kind_name kind.NothingToBind = codes "NothingToBind"
kind_name kind.FlagMayBeClear = codes "FlagMayBeClear"
kind_name kind.FlagMayBeSet = codes "FlagMayBeSet"
kind_name kind.TooManyRequests = codes "TooManyRequests"
kind_name kind.TooManyBytes = codes "TooManyBytes"
kind_name kind.OutOfMemory = codes "OutOfMemory"

-- ---- the least fault

-- where a section stands in the order of the sections
abbrev pub section_number : Actor → ℕ
section_number actor.P = 0
section_number actor.A = 1
section_number actor.B = 2

-- the first of two faults: the kind counts first, then the section, then the place
abbrev pub IsBefore : RefusalKind → Actor → ℕ → RefusalKind → Actor → ℕ → Type 0
IsBefore kind actor place other_kind other_actor other_place =
    (kind_number kind < kind_number other_kind)
    ⊎ ((kind ≡ other_kind)
    × ((section_number actor < section_number other_actor) ⊎ ((actor ≡ other_actor) × (place < other_place))))

-- the fault stands there, and none before it stands anywhere, of the kinds with this number or a greater one
pub record IsLeastFrom (c : Code) (number : ℕ) (fault : CodeFault) : Type 0 where
  pub stands : IsFault c fault.kind fault.actor fault.place
  pub first : (kind : RefusalKind) (actor : Actor) (place : ℕ) → number ≤ kind_number kind
      → IsBefore kind actor place fault.kind fault.actor fault.place → IsFault c kind actor place → ⊥

-- the least of all faults
abbrev pub IsLeast : Code → CodeFault → Type 0
IsLeast c fault = IsLeastFrom c 1 fault

-- no fault stands anywhere, of the kinds from this number to the one before that number
abbrev pub HasNoneFrom : Code → ℕ → ℕ → Type 0
HasNoneFrom c from to =
    (kind : RefusalKind) (actor : Actor) → from ≤ kind_number kind → kind_number kind < to → HasNone c kind actor
