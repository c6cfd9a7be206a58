-- What a world holds beside its logs and its notes: how each section stands, and the machines of the sections that have begun.
use Rattle.std.specs.Prelude.{◌≡◌, ◌≢◌, ◌⊎◌, Option, Some, None, List}
use Rattle.mc_protocol.specs.{Sections.section_of, declared.actor.Actor.Actor, declared.sections.Sections.Sections}
use Rattle.mc_code.specs.{Code.Code, States.Tagged, States.State}
use Rattle.mc_machine.specs.{Machine.IsAt, Machine.actor_of, Machine.outstanding_of, declared.machine.Machine.Machine}
use Rattle.mc_core.specs.Worlds.{World, log_of, exchanges_of, BeginsIn, IsEnding}
use Rattle.mc_core.specs.{declared.ending.Ending.Ending, Steps.IsWorldOf}
use Rattle.mc_core.specs.declared.ending.Ending.TheVariants as ending

pub record Held : Type 0 where
  pub world : World
  pub endings : Sections Ending
  pub machines : Sections (Option Machine)

-- the machine stands where the section's log leads
pub record Stands (c : Code) (w : World) (who : Actor) (m : Machine) : Type 0 where
  pub actor : actor_of m ≡ who
  pub waits : outstanding_of m ≡ (log_of w who).waiting
  pub variables : List Tagged
  pub st : State
  pub begins : BeginsIn c w who variables
  pub at : IsAt c m variables (exchanges_of c w who) st

-- there is such a machine once the section has begun, and none before
abbrev pub HasMachine : Code → World → Actor → Ending → Option Machine → Type 0
HasMachine c w who e machine =
    ((e ≡ ending.NotBegun) × (machine ≡ None))
    ⊎ ((m : Machine) × (e ≢ ending.NotBegun) × (machine ≡ Some m) × Stands c w who m)

-- the world is a fold of its notes, and what it holds is that of this world
pub record IsHeldBy (c : Code) (h : Held) : Type 0 where
  pub fold : IsWorldOf c h.world
  pub endings : (who : Actor) → IsEnding c h.world who (section_of h.endings who)
  pub machines : (who : Actor) → HasMachine c h.world who (section_of h.endings who) (section_of h.machines who)

-- the fold of the world's notes, where that is this world, and none where it isn't
abbrev pub FindsFold : Code → World → Option Held → Type 0
FindsFold c w None = IsWorldOf c w → ⊥
FindsFold c w (Some held) = (held.world ≡ w) × IsHeldBy c held
