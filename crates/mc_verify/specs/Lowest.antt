-- What a search for the faults of one kind answers, and what it leaves for the next. Private contracts cite it.
use Rattle.std.specs.Prelude.{ℕ, ◌<◌, Option, Some, None}
use Rattle.mc_protocol.specs.declared.actor.Actor.{Actor}
use Rattle.mc_code.specs.Code.{Code}
use Rattle.mc_sound.specs.{Faults.IsFault, Faults.HasNone, LeastFaults.HasNoneFrom, declared.refusal_kind.RefusalKind.RefusalKind}
use Rattle.mc_sound.specs.declared.refusal_kind.RefusalKind.TheVariants as kind

-- of the faults of the kind in the section, this is the one at the lowest place
pub record IsLowest (c : Code) (kind : RefusalKind) (actor : Actor) (place : ℕ) : Type 0 where
  pub stands : IsFault c kind actor place
  pub first : (before : ℕ) → before < place → IsFault c kind actor before → ⊥

-- a place that is answered for a section is the lowest with a fault of the kind, and the answer is none only where the
-- section has no such fault
pub record FindsLowest (c : Code) (kind : RefusalKind) (answers : Actor → Option ℕ → Type 0) : Type 0 where
  pub some : (actor : Actor) (place : ℕ) → answers actor (Some place) → IsLowest c kind actor place
  pub none : (actor : Actor) → answers actor None → HasNone c kind actor

-- ---- kinds that are looked for one after the other

-- the number of the first kind that is looked for together with this one: kinds of structure, of variables, of flags, of
-- budgets
abbrev pub first_number : RefusalKind → ℕ
first_number kind.BadTarget = 1
first_number kind.BadIndex = 1
first_number kind.NoHalt = 1
first_number kind.NotCleared = 1
first_number kind.Unbound = 5
first_number kind.WrongKind = 5
first_number kind.NothingToBind = 5
first_number kind.FlagMayBeClear = 8
first_number kind.FlagMayBeSet = 8
first_number kind.TooManyRequests = 10
first_number kind.TooManyBytes = 10
first_number kind.OutOfMemory = 12

-- no fault stands anywhere, of the kinds from this number to the one before that number
pub record IsFreeOf (c : Code) (from to : ℕ) : Type 0 where
  pub none : HasNoneFrom c from to
