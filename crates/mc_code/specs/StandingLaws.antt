-- Laws of where a section stands, whatever the code is.
use Rattle.std.specs.Prelude.{◌≡◌, ℕ, Some, List, [], ◌∷◌, ◌++◌, map, slice_get}
use Rattle.mc_protocol.specs.{declared.actor.Actor.Actor, declared.reply.Reply.Reply}
use Rattle.mc_script.specs.declared.step.Template.{Template}
use Rattle.mc_code.specs.Calls.{IsCalling, MakesAll, exchange_of, calls_of, Opens}
use Rattle.mc_code.specs.Standing.{IsRightAlong, Leaves, StandsAt}
use Rattle.mc_code.specs.{declared.instr.Call.Call, Code.Code, RunLaws.edges_of, Runs.Exchange, States.Tagged, States.State}

-- P leaves one list of variables after the same exchanges
abbrev pub LeavesOnce : Type 0
LeavesOnce = (c : Code) (before : List Exchange) (variables others : List Tagged)
    → Leaves c before variables → Leaves c before others → variables ≡ others

-- a section makes one call after the same exchanges, with one index and one number
abbrev pub CallsOnce : Type 0
CallsOnce = (c : Code) (actor : Actor) (variables : List Tagged) (exchanges : List Exchange) (made other : Call)
    → IsCalling c actor variables exchanges made → IsCalling c actor variables exchanges other → made ≡ other

-- what a section has sent, and the template of the call that it is about to make, are the calls of a path to a send
abbrev pub CallsOpen : Type 0
CallsOpen = (c : Code) (actor : Actor) (variables : List Tagged) (exchanges : List Exchange) (made : Call)
    → IsCalling c actor variables exchanges made
    → (place : ℕ) × (t : Template) × (slice_get c.templates made.template ≡ Some t)
    × Opens c actor place (calls_of (edges_of exchanges) ++ t ∷ [])

-- a section stands somewhere after the calls that it makes and their replies
abbrev pub CallsStand : Type 0
CallsStand = (c : Code) (actor : Actor) (variables : List Tagged) (pairs : List (Call × Reply)) → MakesAll c actor variables [] pairs
    → (p : ℕ) × (st : State) × StandsAt c actor variables (map (exchange_of c) pairs) p st

-- where a section comes to nothing wrong on its way, each of its exchanges is that of a call that it makes
abbrev pub RightRunsAreCalled : Type 0
RightRunsAreCalled = (c : Code) (actor : Actor) (variables : List Tagged) (exchanges : List Exchange) (p : ℕ) (st : State)
    → StandsAt c actor variables exchanges p st → IsRightAlong c actor variables exchanges
    → (pairs : List (Call × Reply)) × MakesAll c actor variables [] pairs × (map (exchange_of c) pairs ≡ exchanges)
