-- The faults of code, by kind, section and place; and sound code, which has none.
use Rattle.std.specs.Prelude.{◌≡◌, ℕ, ◌<◌, Bool, true, false, not, Some, List, [], ◌∷◌, ◌++◌, length, slice_get}
use Rattle.mc_protocol.specs.declared.actor.Actor.{Actor}
use Rattle.mc_protocol.specs.declared.actor.Actor.TheVariants as actor
use Rattle.mc_script.specs.declared.step.Template.{Template}
use Rattle.mc_code.specs.States.{Tagged, State, Outcome, unbound, wrong_kind, nothing_to_bind}
use Rattle.mc_code.specs.{Calls.SendsAt, Calls.LeadsIn, Calls.calls_of, Code.Code, Code.section_of, Code.instructions_in, Paths.Edge}
use Rattle.mc_code.specs.{Runs.Exchange, Standing.StandsAt, Standing.met_in, Standing.BeginsAfter}
use Rattle.mc_sound.specs.{Costs.cost_along, Costs.bound_of, Flags.needs, Flags.flag_along, Structure.HasBadTarget, Structure.HasBadIndex}
use Rattle.mc_sound.specs.{Structure.LacksHalt, Interleavings.Stage, Interleavings.LeadsTo, Interleavings.calls_along}
use Rattle.mc_sound.specs.{declared.measure.Measure.Measure, Clearing.clears_at, declared.refusal_kind.RefusalKind.RefusalKind}
pub use Rattle.mc_sound.specs.Structure.{IsStructured}
use Rattle.mc_sound.specs.declared.measure.Measure.TheVariants as measure
use Rattle.mc_sound.specs.declared.refusal_kind.RefusalKind.TheVariants as kind

-- ---- what a run may come to

-- after some complete run of P, where the section is a branch, some run of the section leads to the place and comes to
-- this outcome there
pub record MayComeTo (c : Code) (actor : Actor) (place : ℕ) (outcome : Outcome) : Type 0 where
  pub before : List Exchange
  pub variables : List Tagged
  pub exchanges : List Exchange
  pub st : State
  pub begins : BeginsAfter c before actor variables
  pub stands : StandsAt c actor variables exchanges place st
  pub meets : met_in c actor place st ≡ Some outcome

-- a send at the place needs a flag to have this value, and after some interleaving that leads there it has the other one
pub record MayLackFlag (c : Code) (value : Bool) (actor : Actor) (place : ℕ) : Type 0 where
  pub flag : ℕ
  pub t : Template
  pub interleaving : List Stage
  pub sends : SendsAt c actor place t
  pub leads : LeadsTo c actor place interleaving
  pub needed : needs flag t value ≡ true
  pub lacking : flag_along flag (calls_along interleaving) false ≡ not value

-- the calls of some path to a send at the place, the send's own included, cost more than the section's budget
pub record MayExceed (c : Code) (measure : Measure) (actor : Actor) (place : ℕ) : Type 0 where
  pub edges : List Edge
  pub t : Template
  pub leads : LeadsIn c actor edges place
  pub sends : SendsAt c actor place t
  pub exceeds : bound_of measure (section_of c actor).budget < cost_along c measure (calls_of edges ++ t ∷ [])

-- ---- all faults

-- one of the keys isn't cleared at its place of P
abbrev pub IsNotCleared : Code → Actor → ℕ → Type 0
IsNotCleared c actor.P place =
    (place < length c.keys) × (clears_at c.templates place (slice_get (instructions_in c actor.P) place) ≡ false)
IsNotCleared c actor.A place = ⊥
IsNotCleared c actor.B place = ⊥

-- the code has a fault of this kind at this place of the section; want of memory is no fault of code
abbrev pub IsFault : Code → RefusalKind → Actor → ℕ → Type 0
IsFault c kind.BadTarget actor place = HasBadTarget c actor place
IsFault c kind.BadIndex actor place = HasBadIndex c actor place
IsFault c kind.NoHalt actor place = LacksHalt c actor place
IsFault c kind.NotCleared actor place = IsNotCleared c actor place
IsFault c kind.Unbound actor place = (t : Template) × MayComeTo c actor place (unbound t)
IsFault c kind.WrongKind actor place = (t : Template) × MayComeTo c actor place (wrong_kind t)
IsFault c kind.NothingToBind actor place = (variable : ℕ) × MayComeTo c actor place (nothing_to_bind variable)
IsFault c kind.FlagMayBeClear actor place = MayLackFlag c true actor place
IsFault c kind.FlagMayBeSet actor place = MayLackFlag c false actor place
IsFault c kind.TooManyRequests actor place = MayExceed c measure.Requests actor place
IsFault c kind.TooManyBytes actor place = MayExceed c measure.Bytes actor place
IsFault c kind.OutOfMemory actor place = ⊥

-- no fault of the kind stands in the section
abbrev pub HasNone : Code → RefusalKind → Actor → Type 0
HasNone c kind actor = (place : ℕ) → IsFault c kind actor place → ⊥

-- no fault stands anywhere
abbrev pub IsSound : Code → Type 0
IsSound c = (kind : RefusalKind) (actor : Actor) → HasNone c kind actor
