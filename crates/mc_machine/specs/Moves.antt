-- How a machine moves: what it sends, what a reply makes of it, and how it goes on without one. Private contracts cite it.
use Rattle.std.specs.Prelude.{◌≡◌, ℕ, Some, List, [], ◌∷◌, ◌++◌, slice_index}
use Rattle.mc_protocol.specs.declared.reply.Reply.{Reply}
use Rattle.mc_script.specs.declared.step.Argument.{Argument}
use Rattle.mc_script.specs.declared.step.Argument.TheVariants as argument
use Rattle.mc_code.specs.{declared.instr.Call.Call, Calls.exchange_of, Code.Code, Runs.Exchange, States.Tagged, States.State}
use Rattle.mc_machine.specs.{Machine.IsAt, Machine.IsOnWay, declared.machine.Machine.Machine}

-- the number of a request with this argument: its own, or that of its variable
abbrev pub plain_number : Argument → List ℕ → ℕ
plain_number argument.Nothing numbers = 0
plain_number (argument.Number number) numbers = number
plain_number (argument.Variable v) numbers = slice_index numbers v

-- wherever the one machine stood with this call outstanding, the other is on its way after this reply to it
abbrev pub IsTaken : Code → Machine → Reply → Machine → Type 0
IsTaken c m reply n = (made : Call) (variables : List Tagged) (exchanges : List Exchange) (st : State)
    → m.outstanding ≡ Some made → IsAt c m variables exchanges st
    → (after : State) × IsOnWay c n variables (exchanges ++ exchange_of c (made, reply) ∷ []) after

-- wherever the one machine was on its way, the other is so too, after the same exchanges
abbrev pub Follows : Code → Machine → Machine → Type 0
Follows c m n = (variables : List Tagged) (exchanges : List Exchange) (st : State) → IsOnWay c m variables exchanges st
    → (after : State) × IsOnWay c n variables exchanges after

-- it is on its way in this code, after some exchanges
abbrev pub Goes : Code → Machine → Type 0
Goes c m = (variables : List Tagged) × (exchanges : List Exchange) × (st : State) × IsOnWay c m variables exchanges st
