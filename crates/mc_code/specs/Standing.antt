-- Where a section stands after what was exchanged, what it comes to there, and with which variables it begins.
use Rattle.std.specs.Prelude.{◌≡◌, ℕ, Bool, true, false, Option, Some, List, ◌++◌, slice_get, replicate}
use Rattle.mc_protocol.specs.declared.actor.Actor.{Actor}
use Rattle.mc_protocol.specs.declared.actor.Actor.TheVariants as actor
use Rattle.mc_code.specs.States.{Tagged, nothing, State, initial_state, Outcome, call, unbound, wrong_kind, nothing_to_bind, outside, ended}
use Rattle.mc_code.specs.{Code.Code, Code.instructions_in, Runs.Exchange, Runs.IsRun, Runs.met_at}

-- ---- where a section stands

-- begun with these variables, the section stands after these exchanges at this place, in this state
abbrev pub StandsAt : Code → Actor → List Tagged → List Exchange → ℕ → State → Type 0
StandsAt c actor variables exchanges p st = IsRun c.templates (instructions_in c actor) 0 (initial_state variables) exchanges p st

-- what the section comes to at this place in this state, if anything
abbrev pub met_in : Code → Actor → ℕ → State → Option Outcome
met_in c actor p st = met_at c.templates (slice_get (instructions_in c actor) p) st

-- begun with these variables, the section comes after these exchanges to this outcome, in this state
abbrev pub ComesTo : Code → Actor → List Tagged → List Exchange → State → Outcome → Type 0
ComesTo c actor variables exchanges st outcome =
    (p : ℕ) × StandsAt c actor variables exchanges p st × (met_in c actor p st ≡ Some outcome)

-- ---- what is right

-- a call or the end: no number is missing or of another kind, and an instruction is there
abbrev pub is_right : Outcome → Bool
is_right (call t number) = true
is_right (unbound t) = false
is_right (wrong_kind t) = false
is_right (nothing_to_bind variable) = false
is_right outside = false
is_right ended = true

-- begun with these variables, the section comes to nothing wrong on its way along these exchanges
abbrev pub IsRightAlong : Code → Actor → List Tagged → List Exchange → Type 0
IsRightAlong c actor variables exchanges = (xs ys : List Exchange) (st : State) (outcome : Outcome)
    → exchanges ≡ xs ++ ys → ComesTo c actor variables xs st outcome → is_right outcome ≡ true

-- ---- how a section begins

-- as many as the code has, with no number in any
abbrev pub no_variables : Code → List Tagged
no_variables c = replicate c.vars nothing

-- P is done after these exchanges, and leaves these variables
abbrev pub Leaves : Code → List Exchange → List Tagged → Type 0
Leaves c before variables = (st : State) × ComesTo c actor.P (no_variables c) before st ended × (variables ≡ st.variables)

-- P begins with no number in its variables, and a branch with those that P leaves after these exchanges
abbrev pub BeginsAfter : Code → List Exchange → Actor → List Tagged → Type 0
BeginsAfter c before actor.P variables = variables ≡ no_variables c
BeginsAfter c before actor.A variables = Leaves c before variables
BeginsAfter c before actor.B variables = Leaves c before variables

-- the same, whatever was exchanged before
abbrev pub BeginsWith : Code → Actor → List Tagged → Type 0
BeginsWith c actor variables = (before : List Exchange) × BeginsAfter c before actor variables
