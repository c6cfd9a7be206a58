-- Where a machine stands: how far its section has come in the code, and whether its plain numbers are those of the section.
use Rattle.std.specs.Prelude.{◌≡◌, ℕ, ◌<◌, Bool, true, false, Option, Some, List, [], ◌∷◌}
use Rattle.std.specs.Prelude.{◌++◌, length, slice_get, slice_index, slice_index_or}
use Rattle.mc_protocol.specs.{declared.actor.Actor.Actor, declared.reply.Reply.Reply, Legal.is_fit_for}
use Rattle.mc_protocol.specs.declared.actor.Actor.TheVariants as actor
use Rattle.mc_code.specs.Standing.{StandsAt, BeginsWith, no_variables}
use Rattle.mc_code.specs.{declared.instr.Call.Call, declared.instr.Instr.Instr, Calls.IsCalling, Calls.template_of, Calls.exchange_of}
use Rattle.mc_code.specs.{Code.Code, Code.instructions_in, Runs.Exchange, States.Tagged, States.nothing, States.State}
use Rattle.mc_code.specs.declared.instr.Instr.TheVariants as instr
use Rattle.mc_machine.specs.declared.machine.Machine.{Machine}

-- ---- what a machine shows

abbrev pub actor_of : Machine → Actor
actor_of m = m.actor

abbrev pub numbers_of : Machine → List ℕ
numbers_of m = m.numbers

-- the call that waits for its reply, if any
abbrev pub outstanding_of : Machine → Option Call
outstanding_of m = m.outstanding

-- ---- plain numbers

-- at the index of each variable stands its number, without its kind
abbrev pub AreNumbersOf : List ℕ → List Tagged → Type 0
AreNumbersOf numbers variables =
    (v : ℕ) → v < length variables → slice_index numbers v ≡ (slice_index_or variables v nothing).1

-- ---- where it stands

-- in this code, begun with these variables, the machine's section is after these exchanges at the machine's place in this state,
-- and the machine's numbers are those of the state
pub record IsOnWay (c : Code) (m : Machine) (variables : List Tagged) (exchanges : List Exchange) (st : State) : Type 0 where
  pub begins : BeginsWith c m.actor variables
  pub stands : StandsAt c m.actor variables exchanges m.place st
  pub numbers : AreNumbersOf m.numbers st.variables
  pub shown : m.shown ≡ st.last.1

-- a send or the end: a section goes no further from here without a reply
abbrev pub waits_at : Option Instr → Bool
waits_at (Some (instr.Send template next)) = true
waits_at (Some instr.Halt) = true
waits_at _ = false

-- the same, where the section goes no further without a reply; and the outstanding call is the one that it makes there
pub record IsAt (c : Code) (m : Machine) (variables : List Tagged) (exchanges : List Exchange) (st : State) : Type 0 where
  pub way : IsOnWay c m variables exchanges st
  pub waits : waits_at (slice_get (instructions_in c m.actor) m.place) ≡ true
  pub outstanding : (made : Call) → m.outstanding ≡ Some made → IsCalling c m.actor variables exchanges made

-- it stands somewhere in this code, after some exchanges
abbrev pub Stands : Code → Machine → Type 0
Stands c m = (variables : List Tagged) × (exchanges : List Exchange) × (st : State) × IsAt c m variables exchanges st

-- ---- how it begins, and what it may be answered

-- the section begins with these variables: P with no number in any, and a branch with those that P left, which have these numbers
abbrev pub StartsFrom : Code → Actor → List ℕ → List Tagged → Type 0
StartsFrom c actor.P numbers variables = variables ≡ no_variables c
StartsFrom c actor.A numbers variables = BeginsWith c actor.A variables × AreNumbersOf numbers variables
StartsFrom c actor.B numbers variables = BeginsWith c actor.B variables × AreNumbersOf numbers variables

-- a call is outstanding that may have this reply
abbrev pub MayBeAnswered : Code → Machine → Reply → Type 0
MayBeAnswered c m reply = (made : Call) × (m.outstanding ≡ Some made) × (is_fit_for (template_of c made).verb reply ≡ true)

-- wherever the one machine stood with this call outstanding, the other stands after this reply to it
abbrev pub IsAnswered : Code → Machine → Reply → Machine → Type 0
IsAnswered c m reply n = (made : Call) (variables : List Tagged) (exchanges : List Exchange) (st : State)
    → m.outstanding ≡ Some made → IsAt c m variables exchanges st
    → (after : State) × IsAt c n variables (exchanges ++ exchange_of c (made, reply) ∷ []) after
