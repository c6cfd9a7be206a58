-- What a server does with a request (protocol.txt).
use Rattle.std.specs.Prelude.{ℕ, ◌+◌, ◌-◌, ◌%◌, ◌^◌, ◌==◌, nat_lt, Bool, ◌&&◌, Option, Some}
use Rattle.std.specs.Prelude.{None, List, ◌++◌, length, decimal, replicate, if◌then◌else◌}
use Rattle.std.specs.FinMap as finite_map
use Rattle.mc_model.specs.Types.{Request, Verb, Reply, Item, Choice}
use Rattle.mc_model.specs.{Contents.Contents, Numeral.numeral_of, Numeral.read_as}
use Rattle.mc_protocol.specs.declared.request.Verb.TheVariants as verb
use Rattle.mc_protocol.specs.declared.reply.Reply.TheVariants as reply

-- what becomes of the item at the request's key
pub data Change : Type 0 where
  Keeps : Change
  Puts : Item → Change
  Removes : Change

-- what a request does, and what is answered
pub record Effect : Type 0 where
  pub change : Change
  pub reply : Reply

abbrev pub answers : Reply → Effect
answers r = record { change = Keeps; reply = r }

abbrev pub puts : Item → Reply → Effect
puts item r = record { change = Puts item; reply = r }

-- ---- storage

-- the version that a storage request makes: its own flags and body, and the next number
abbrev pub version : Request → ℕ → Item
version request number = record { flags = request.flags; body = request.body; number = number }

-- set: stored, whatever is there
abbrev pub store : Request → ℕ → Effect
store request number = puts (version request number) reply.Stored

-- the version with the old flags and another body
abbrev pub join : Item → List ℕ → ℕ → Effect
join item body number = puts (record { flags = item.flags; body = body; number = number }) reply.Stored

-- ---- cas: stored where the item that is there has this number

abbrev pub swap : Request → ℕ → Option Item → Effect
swap request number None = answers reply.NotFound
swap request number (Some item) = if item.number == request.number then store request number else answers reply.Exists

-- ---- retrieval: the item that is there, or none; gets shows its number

abbrev pub read : Option Item → Effect
read None = answers reply.Miss
read (Some item) = answers (reply.Hit item.flags item.body None)

abbrev pub read_with_number : Option Item → Effect
read_with_number None = answers reply.Miss
read_with_number (Some item) = answers (reply.Hit item.flags item.body (Some item.number))

-- ---- arithmetic: on what the body says, and the old flags

-- incr wraps at 2^64
abbrev pub increment : ℕ → ℕ → ℕ
increment n amount = (n + amount) % (2 ^ 64)

-- decr below 0 gives 0
abbrev pub decrement : ℕ → ℕ → ℕ
decrement n amount = n - amount

-- the new body: the decimal, or, where that is chosen and the decimal is shorter than the old body, the decimal and
-- spaces to the old length
abbrev pub counted_body : Bool → List ℕ → ℕ → List ℕ
counted_body pad old n =
    if pad && nat_lt (length (decimal n)) (length old) then decimal n ++ replicate (length old - length (decimal n)) 32
    else decimal n

abbrev pub count_to : Item → Bool → ℕ → ℕ → Effect
count_to item pad n number =
    puts (record { flags = item.flags; body = counted_body pad item.body n; number = number }) (reply.Number n)

abbrev pub count_from : (ℕ → ℕ → ℕ) → Request → Choice → ℕ → Item → Option ℕ → Effect
count_from new request choice number item None = answers reply.NotNumber
count_from new request choice number item (Some n) = count_to item choice.pad (new n request.number) number

abbrev pub count : (ℕ → ℕ → ℕ) → Request → Choice → ℕ → Option Item → Effect
count new request choice number None = answers reply.NotFound
count new request choice number (Some item) =
    count_from new request choice number item (read_as choice.read (numeral_of item.body))

-- ---- deletion

-- delete: the item that is there is gone
abbrev pub delete : Option Item → Effect
delete None = answers reply.NotFound
delete (Some item) = record { change = Removes; reply = reply.Deleted }

-- ---- every verb

-- the effect of a verb on what is at the request's key
abbrev pub effect_by : Verb → Request → Choice → ℕ → Option Item → Effect
effect_by verb.Set request choice number found = store request number
-- add: stored where nothing is there
effect_by verb.Add request choice number None = store request number
effect_by verb.Add request choice number (Some item) = answers reply.NotStored
-- replace: stored where something is there
effect_by verb.Replace request choice number None = answers reply.NotStored
effect_by verb.Replace request choice number (Some item) = store request number
-- append and prepend: the old flags, and the request's body after or before the old one
effect_by verb.Append request choice number None = answers reply.NotStored
effect_by verb.Append request choice number (Some item) = join item (item.body ++ request.body) number
effect_by verb.Prepend request choice number None = answers reply.NotStored
effect_by verb.Prepend request choice number (Some item) = join item (request.body ++ item.body) number
effect_by verb.Cas request choice number found = swap request number found
effect_by verb.Get request choice number found = read found
effect_by verb.Gets request choice number found = read_with_number found
effect_by verb.Incr request choice number found = count increment request choice number found
effect_by verb.Decr request choice number found = count decrement request choice number found
effect_by verb.Delete request choice number found = delete found
-- touch: nothing changes, since the time of expiry is 0
effect_by verb.Touch request choice number None = answers reply.NotFound
effect_by verb.Touch request choice number (Some item) = answers reply.Touched

-- what is at the key after the change
abbrev pub item_after : Change → Option Item → Option Item
item_after Keeps found = found
item_after (Puts item) found = Some item
item_after Removes found = None

-- the cache after this change at the key
abbrev pub with_change : Contents → List ℕ → Change → Contents
with_change contents key Keeps = contents
with_change contents key (Puts item) = finite_map.insert contents key item
with_change contents key Removes = finite_map.remove contents key

-- a cache and an answer
pub record Outcome : Type 0 where
  pub contents : Contents
  pub reply : Reply

-- what an effect of the request leaves and answers
abbrev pub outcome_of : Contents → Request → Effect → Outcome
outcome_of contents request effect = record { contents = with_change contents request.key effect.change; reply = effect.reply }

-- what the request does to such a cache
abbrev pub effect_of : Contents → Request → Choice → ℕ → Effect
effect_of contents request choice number =
    effect_by request.verb request choice number (finite_map.get contents request.key)

-- a server acts on a request: only the item at its key may change, and a version that is made has the number given
abbrev pub act : Contents → Request → Choice → ℕ → Outcome
act contents request choice number = outcome_of contents request (effect_of contents request choice number)
