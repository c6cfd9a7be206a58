-- What a server is asked, as contracts see it: the keys of a retrieval are a list.
use Rattle.std.specs.Prelude.{Bool, true, false}
use Rattle.mc_protocol.specs.{Lines.Words, declared.request.Request.Request}
use Rattle.mc_reader.specs.declared.ask.Ask as code
use Rattle.mc_reader.specs.declared.ask.Ask.TheVariants as ask
use Rattle.mc_reader.specs.declared.ask.Refuse.{Refuse}
use Rattle.mc_reader.specs.declared.ask.Refuse.TheVariants.{Unknown, BadLine, Expiry, TooLarge, BadChunk, LongLine}

-- a request, and whether no reply is to be written; a retrieval of these keys, and whether it shows cas uniques; to close; or a
-- request that is refused
pub data Asking : Type 0 where
  One : Request → Bool → Asking
  Many : Bool → Words → Asking
  Quit : Asking
  Refused : Refuse → Asking

abbrev pub ask_of : code.Ask → Asking
ask_of (ask.One request noreply) = One request noreply
ask_of (ask.Many with_cas keys) = Many with_cas keys.items
ask_of ask.Quit = Quit
ask_of (ask.Refused refuse) = Refused refuse

-- nothing is read after it
abbrev pub refusal_closes : Refuse → Bool
refusal_closes Unknown = false
refusal_closes BadLine = false
refusal_closes Expiry = false
refusal_closes TooLarge = false
refusal_closes BadChunk = true
refusal_closes LongLine = true

abbrev pub closes : Asking → Bool
closes (One request noreply) = false
closes (Many with_cas keys) = false
closes Quit = true
closes (Refused refuse) = refusal_closes refuse
