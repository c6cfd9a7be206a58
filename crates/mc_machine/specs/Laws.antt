-- What follows from where a machine stands.
use Rattle.std.specs.Prelude.{◌≡◌, ◌≢◌, Some, List, slice_get}
use Rattle.mc_protocol.specs.declared.actor.Actor.{Actor}
use Rattle.mc_protocol.specs.declared.actor.Actor.TheVariants as actor
use Rattle.mc_code.specs.Standing.{BeginsAfter, ComesTo}
use Rattle.mc_code.specs.{declared.instr.Call.Call, Calls.template_of, Code.Code, Runs.Exchange, States.Tagged, States.State, States.ended}
use Rattle.mc_machine.specs.declared.machine.Machine.{Machine}
use Rattle.mc_machine.specs.Machine.{IsAt, StartsFrom, actor_of, numbers_of, outstanding_of}

-- a branch may start from the numbers of a machine of P that is done: they are those of the variables that P leaves
abbrev pub EndsStartBranches : Type 0
EndsStartBranches = (c : Code) (m : Machine) (branch : Actor) (variables : List Tagged) (exchanges : List Exchange) (st : State)
    → IsAt c m variables exchanges st → actor_of m ≡ actor.P → ComesTo c (actor_of m) variables exchanges st ended → branch ≢ actor.P
    → StartsFrom c branch (numbers_of m) st.variables × BeginsAfter c exchanges branch st.variables

-- an outstanding call names a template of the code
abbrev pub OutstandingIsNamed : Type 0
OutstandingIsNamed = (c : Code) (m : Machine) (variables : List Tagged) (exchanges : List Exchange) (st : State) (made : Call)
    → IsAt c m variables exchanges st → outstanding_of m ≡ Some made → slice_get c.templates made.template ≡ Some (template_of c made)
