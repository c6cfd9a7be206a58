-- Laws of the grammar of requests.
use Rattle.std.specs.Prelude.{◌≡◌, ℕ, ◌<◌, ◌≤◌, true, false, List, ◌++◌, length}
use Rattle.mc_protocol.specs.{Decimals.MAX_32, Decimals.MAX_64, Fields.fields_of, Texts.request_text, declared.request.Fields.Fields}
use Rattle.mc_protocol.specs.{declared.request.Request.Request, declared.request.Verb.Verb}
use Rattle.mc_protocol.specs.declared.request.Fields.TheVariants as fields
use Rattle.mc_reader.specs.declared.limits.TheConstants.{REQUEST_BODY_LIMIT}
use Rattle.mc_reader.specs.{AskEnds.AskEnds, AskLines.bare, AskWords.is_request_key, Asks.Asking, Asks.One}

-- of two texts that end, begun by the same bytes, neither is shorter, and they ask the same: so the requests of a stream are
-- determined
abbrev pub OneAsk : Type 0
OneAsk = (s t after_s after_t : List ℕ) (a b : Asking) → AskEnds s a → AskEnds t b → s ++ after_s ≡ t ++ after_t → (s ≡ t) × (a ≡ b)

-- a request with a key of the protocol, numbers within their widths, and a body within the limit
pub record IsSendable (r : Request) : Type 0 where
  pub some : 0 < length r.key
  pub key : is_request_key r.key ≡ true
  pub flags : r.flags ≤ MAX_32
  pub number : r.number ≤ MAX_64
  pub body : length r.body ≤ REQUEST_BODY_LIMIT

-- the request with the fields of its verb alone: the others are 0 or empty
abbrev pub with_fields : Verb → Fields → Request → Request
with_fields verb fields.KeyAlone r = bare verb r.key 0
with_fields verb fields.Expiry r = bare verb r.key 0
with_fields verb fields.Item r = record { verb = verb; key = r.key; flags = r.flags; body = r.body; number = 0 }
with_fields verb fields.Swap r = record { verb = verb; key = r.key; flags = r.flags; body = r.body; number = r.number }
with_fields verb fields.Amount r = bare verb r.key r.number

-- what is written for a request is what is asked: the request itself, where the fields that its verb doesn't have are 0 or empty
abbrev pub WrittenIsAsked : Type 0
WrittenIsAsked = (r : Request) → IsSendable r → AskEnds (request_text r) (One (with_fields r.verb (fields_of r.verb) r) false)
