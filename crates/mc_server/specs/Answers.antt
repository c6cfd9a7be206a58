-- What a client may be answered (protocol.txt). The lines of refusals are this project's own.
use Rattle.std.specs.Prelude.{◌≡◌, Bool, true, false, Ok, Err, List, [], ◌∷◌, ◌++◌, ℕ, codes, if◌then◌else◌, ◌⊎◌}
use Rattle.mc_protocol.specs.declared.request.Verb.TheVariants.{Get, Gets}
use Rattle.mc_protocol.specs.{Lines.Word, Lines.Words, Texts.reply_text, Texts.value_text, declared.reply.Reply.Reply}
use Rattle.mc_protocol.specs.{declared.request.Request.Request, declared.request.Verb.Verb}
use Rattle.mc_protocol.specs.declared.reply.Reply.TheVariants as reply
use Rattle.mc_reader.specs.declared.ask.Refuse.TheVariants.{Unknown, BadLine, Expiry, TooLarge, BadChunk, LongLine}
use Rattle.mc_reader.specs.{AskLines.bare, Asks.Asking, Asks.One, Asks.Many, Asks.Quit, Asks.Refused, declared.ask.Refuse.Refuse}
use Rattle.mc_server.specs.{Callers.MayAnswer, declared.store.StoreFault.TheVariants.NumbersUsedUp}

-- ---- lines

abbrev pub refusal_line : Refuse → List ℕ
refusal_line Unknown = codes "ERROR\r\n"
refusal_line BadLine = codes "CLIENT_ERROR bad command line format\r\n"
refusal_line Expiry = codes "SERVER_ERROR expiry not supported\r\n"
refusal_line TooLarge = codes "SERVER_ERROR object too large for cache\r\n"
refusal_line BadChunk = codes "CLIENT_ERROR bad data chunk\r\n"
refusal_line LongLine = codes "CLIENT_ERROR line too long\r\n"

-- no number is left for the version that a request would make
abbrev pub used_up_line : List ℕ
used_up_line = codes "SERVER_ERROR out of numbers\r\n"

abbrev pub memory_line : List ℕ
memory_line = codes "SERVER_ERROR out of memory\r\n"

-- what ends a retrieval
abbrev pub end_line : List ℕ
end_line = codes "END\r\n"

-- ---- a request, and a retrieval of several keys

-- the text that answers a request: a reply that a caller may give, unless none is to be written; or that it has no number left
abbrev pub MayReply : Request → Bool → List ℕ → Type 0
MayReply request noreply text =
    ((reply : Reply) × MayAnswer request (Ok reply) × (text ≡ (if noreply then [] else reply_text request.key reply)))
    ⊎ (MayAnswer request (Err NumbersUsedUp) × (text ≡ used_up_line))

abbrev pub retrieval_verb : Bool → Verb
retrieval_verb true = Gets
retrieval_verb false = Get

-- what a retrieval of several keys shows of one: its block, where something is found
abbrev pub shown : Word → Reply → List ℕ
shown key (reply.Hit flags body cas) = value_text key flags body cas
shown key _ = []

-- what may be shown of one key, which is asked for by itself
abbrev pub MayShow : Bool → Word → List ℕ → Type 0
MayShow with_cas key text = (reply : Reply) × MayAnswer (bare (retrieval_verb with_cas) key 0) (Ok reply) × (text ≡ shown key reply)

-- what may be shown of the keys, one after another
abbrev pub MayShowAll : Bool → Words → List ℕ → Type 0
MayShowAll with_cas [] text = text ≡ []
MayShowAll with_cas (key ∷ keys) text =
    (first rest : List ℕ) × MayShow with_cas key first × MayShowAll with_cas keys rest × (text ≡ first ++ rest)

-- ---- all that can be asked

-- the text that answers what is asked
abbrev pub MayWrite : Asking → List ℕ → Type 0
MayWrite (One request noreply) text = MayReply request noreply text
MayWrite (Many with_cas keys) text = (blocks : List ℕ) × MayShowAll with_cas keys blocks × (text ≡ blocks ++ end_line)
MayWrite Quit text = text ≡ []
MayWrite (Refused refuse) text = text ≡ refusal_line refuse

-- the front of an answer that isn't finished: nothing, or what is shown of the first keys of a retrieval
abbrev pub MayBegin : Asking → List ℕ → Type 0
MayBegin (Many with_cas keys) text = (first rest : Words) × (keys ≡ first ++ rest) × MayShowAll with_cas first text
MayBegin asked text = text ≡ []
