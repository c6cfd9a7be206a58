-- What those that call a server may be answered.
use Rattle.std.specs.Prelude.{◌≡◌, true, Result, Ok, Err}
use Rattle.mc_protocol.specs.{declared.reply.Reply.Reply, declared.request.Request.Request}
use Rattle.mc_server.specs.declared.store.StoreFault.TheVariants.{OutOfMemory, NumbersUsedUp}
use Rattle.mc_server.specs.{Stores.Stored, Stores.effect_on, Stores.is_used_up, declared.store.StoreFault.StoreFault}

-- what some store answers to the request
abbrev pub MayAnswer : Request → Result Reply StoreFault → Type 0
MayAnswer request (Ok reply) = (s : Stored) × (reply ≡ (effect_on s request).reply)
MayAnswer request (Err OutOfMemory) = Unit {0}
MayAnswer request (Err NumbersUsedUp) = (s : Stored) × (is_used_up s (effect_on s request).change ≡ true)
