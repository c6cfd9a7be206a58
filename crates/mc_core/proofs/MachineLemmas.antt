-- Where machines stand.
use Rattle.std.proofs.Common.{[], ◌∷◌, ◌++◌}
use Rattle.mc_protocol.specs.declared.reply.Reply.{Reply}
use Rattle.mc_code.specs.{Calls.exchange_of, Code.Code}
use Rattle.mc_machine.specs.{Machine.Stands, Machine.MayBeAnswered, Machine.IsAnswered, declared.machine.Machine.Machine}

-- a machine stands somewhere after a reply
pub answered_stands : (c : Code) (m n : Machine) (reply : Reply) → Stands c m → MayBeAnswered c m reply → IsAnswered c m reply n
    → Stands c n
answered_stands c m n reply (variables, exchanges, st, at) (made, waits, fit) answered =
    let next = answered made variables exchanges st waits at in
    (variables, exchanges ++ exchange_of c (made, reply) ∷ [], next.0, next.1)
