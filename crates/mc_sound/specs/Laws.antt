-- Laws of faults, whatever the code is.
use Rattle.std.specs.Prelude.{◌≡◌, ◌⊎◌, ◌↔◌, ℕ, ◌≤◌, Bool, List, [], ◌∷◌, ◌++◌}
use Rattle.mc_protocol.specs.{Merge.IsMerge, declared.actor.Actor.Actor}
use Rattle.mc_protocol.specs.declared.actor.Actor.TheVariants as actor
use Rattle.mc_script.specs.declared.step.Template.{Template}
use Rattle.mc_code.specs.{Calls.SendsAt, Calls.LeadsIn, Calls.calls_of, Calls.Opens, Code.Code, Code.IsCode, Code.instructions_in}
use Rattle.mc_code.specs.{Paths.Edge, Paths.IsComplete, Runs.Exchange, Standing.BeginsWith, Standing.IsRightAlong, States.Tagged}
use Rattle.mc_sound.specs.{declared.measure.Measure.Measure, Costs.cost_along, Flags.IsAdmitted, Flags.all_clear, Interleavings.Stage}
use Rattle.mc_sound.specs.{Interleavings.LeadsTo, Interleavings.calls_along, Faults.MayLackFlag, Faults.IsFault, Faults.HasNone}
use Rattle.mc_sound.specs.{Faults.IsSound, LeastFaults.IsLeast, declared.code_fault.CodeFault.CodeFault}
use Rattle.mc_sound.specs.{declared.refusal_kind.RefusalKind.RefusalKind}
use Rattle.mc_sound.specs.declared.refusal_kind.RefusalKind.TheVariants as kind

-- code without flags has no fault of flags
pub record NoFlagsNoFaults : Type 0 where
  pub clear : (c : Code) (actor : Actor) → IsCode c → c.flags ≡ 0 → HasNone c kind.FlagMayBeClear actor
  pub set : (c : Code) (actor : Actor) → IsCode c → c.flags ≡ 0 → HasNone c kind.FlagMayBeSet actor

-- the first of some calls cost no more than all of them
abbrev pub PrefixesCostLess : Type 0
PrefixesCostLess = (c : Code) (measure : Measure) (calls more : List Template)
    → cost_along c measure calls ≤ cost_along c measure (calls ++ more)

-- begun with the variables of any end of P, a section of sound code comes to nothing wrong, whatever it is answered
abbrev pub SoundIsRight : Type 0
SoundIsRight = (c : Code) (actor : Actor) (variables : List Tagged) (exchanges : List Exchange) → IsSound c
    → BeginsWith c actor variables → IsRightAlong c actor variables exchanges

-- no call of the code may find a flag otherwise than it needs it
abbrev pub LacksNoFlag : Code → Type 0
LacksNoFlag c = (value : Bool) (actor : Actor) (place : ℕ) → MayLackFlag c value actor place → ⊥

-- along each interleaving of the code, each call finds the flags as it needs them, and so does the one that a section is about to make
abbrev pub IsAlwaysAdmitted : Code → Type 0
IsAlwaysAdmitted c = (actor : Actor) (place : ℕ) (interleaving : List Stage) (t : Template) → LeadsTo c actor place interleaving
    → SendsAt c actor place t → IsAdmitted all_clear (calls_along interleaving ++ t ∷ [])

-- a send that may lack a flag ends calls along an interleaving that aren't admitted; and no send may, exactly where all are admitted
pub record LackIsNotAdmitted : Type 0 where
  pub ends : (c : Code) (value : Bool) (actor : Actor) (place : ℕ) → MayLackFlag c value actor place
      → (interleaving : List Stage) × (t : Template) × LeadsTo c actor place interleaving × SendsAt c actor place t
      × (IsAdmitted all_clear (calls_along interleaving ++ t ∷ []) → ⊥)
  pub none : (c : Code) → LacksNoFlag c ↔ IsAlwaysAdmitted c

-- along each interleaving of sound code, each call finds the flags as it needs them, and so does the one that a section is about to
-- make; an interleaving is any merge of paths, and so may leave out the last call of either branch
pub record SoundIsAdmitted : Type 0 where
  pub along : (c : Code) (actor : Actor) (place : ℕ) (interleaving : List Stage) → IsSound c → LeadsTo c actor place interleaving
      → IsAdmitted all_clear (calls_along interleaving)
  pub next : (c : Code) (actor : Actor) (place : ℕ) (interleaving : List Stage) (t : Template) → IsSound c
      → LeadsTo c actor place interleaving
      → SendsAt c actor place t → IsAdmitted all_clear (calls_along interleaving ++ t ∷ [])

-- what a section may have sent: the calls of a path, or those of a path to a send and the send's own
abbrev pub MaySend : Code → Actor → List Template → Type 0
MaySend c actor calls =
    (place : ℕ) × (((edges : List Edge) × LeadsIn c actor edges place × (calls ≡ calls_of edges)) ⊎ Opens c actor place calls)

-- whatever P of sound code may have sent, and after a complete path of P every merge of what the branches may have sent, finds
-- the flags as it needs them; so both branches may have a last call that isn't answered
pub record SentIsAdmitted : Type 0 where
  pub in_p : (c : Code) (calls : List Template) → IsSound c → MaySend c actor.P calls → IsAdmitted all_clear calls
  pub after_p : (c : Code) (before : List Edge) (calls_a calls_b merged : List Template) → IsSound c
      → IsComplete c.templates (instructions_in c actor.P) before → MaySend c actor.A calls_a → MaySend c actor.B calls_b
      → IsMerge calls_a calls_b merged → IsAdmitted all_clear (calls_of before ++ merged)

-- the least fault is one, sound code has none, and code with a fault isn't sound
pub record LeastIsOne : Type 0 where
  pub one : (c : Code) (fault other : CodeFault) → IsLeast c fault → IsLeast c other → fault ≡ other
  pub none : (c : Code) (fault : CodeFault) → IsSound c → IsLeast c fault → ⊥
  pub unsound : (c : Code) (kind : RefusalKind) (actor : Actor) (place : ℕ) → IsFault c kind actor place → IsSound c → ⊥
