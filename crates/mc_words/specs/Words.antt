-- The words of requests and replies, as histories and step lists have them.
use Rattle.std.specs.Prelude.{◌≡◌, ℕ, ◌+◌, ◌-◌, ◌*◌, ◌≤◌, ◌==◌, nat_le, Bool, true, not, ◌&&◌, ◌⊎◌, Option, Some}
use Rattle.std.specs.Prelude.{None, List, [], ◌∷◌, length, codes, if◌then◌else◌, ◌/◌, ◌%◌, false, decimal}
use Rattle.std.specs.{List.flat_map, List.join_with_byte, Fmt.digit_glyph}
use Rattle.mc_model.specs.Types.{Word, Fields, Request, Reply, Class, REPLY_BODY_LIMIT}
use Rattle.mc_protocol.specs.{Names.is_key, Words.verb_word, Fields.fields_of, Legal.class_of}
use Rattle.mc_protocol.specs.Decimals.{SpellsNumber, MAX_32, MAX_64}
use Rattle.mc_protocol.specs.declared.request.Fields.TheVariants as fields
use Rattle.mc_protocol.specs.declared.reply.Reply.TheVariants as reply
use Rattle.mc_protocol.specs.declared.reply.Class.TheVariants as class

-- ---- bodies

-- a byte that stands for itself: 33 to 126, other than `%`
abbrev pub is_plain : ℕ → Bool
is_plain byte = nat_le 33 byte && nat_le byte 126 && not (byte == 37)

-- the value of a hexadecimal digit, in either case
abbrev pub hex_value : ℕ → Option ℕ
hex_value byte =
    if nat_le 48 byte && nat_le byte 57 then Some (byte - 48)
    else (if nat_le 97 byte && nat_le byte 102 then Some (byte - 97 + 10)
    else (if nat_le 65 byte && nat_le byte 70 then Some (byte - 65 + 10) else None))

-- the text begins with a byte, as itself or as `%` and two hexadecimal digits, and the rest follows
abbrev pub SpellsByte : List ℕ → ℕ → List ℕ → Type 0
SpellsByte text byte rest =
    ((text ≡ byte ∷ rest) × (is_plain byte ≡ true))
    ⊎ ((high : ℕ) × (low : ℕ) × (h : ℕ) × (l : ℕ) × (text ≡ 37 ∷ high ∷ low ∷ rest)
    × (hex_value high ≡ Some h) × (hex_value low ≡ Some l) × (byte ≡ h * 16 + l))

-- the text stands for these bytes
abbrev pub SpellsBytes : List ℕ → List ℕ → Type 0
SpellsBytes text [] = text ≡ []
SpellsBytes text (byte ∷ bytes) = (rest : List ℕ) × SpellsByte text byte rest × SpellsBytes rest bytes

-- the word is `=` and a text that stands for the body, which is within the limit
abbrev pub SpellsBody : Word → List ℕ → Type 0
SpellsBody word body = (text : List ℕ) × (word ≡ 61 ∷ text) × SpellsBytes text body × (length body ≤ REPLY_BODY_LIMIT)

-- ---- requests

-- the words after the key, by what the verb has there; a field that it lacks is 0 or empty
abbrev pub SpellsFields : Fields → List Word → Request → Type 0
SpellsFields fields.KeyAlone words r = (words ≡ []) × (r.flags ≡ 0) × (r.body ≡ []) × (r.number ≡ 0)
SpellsFields fields.Expiry words r = (words ≡ []) × (r.flags ≡ 0) × (r.body ≡ []) × (r.number ≡ 0)
SpellsFields fields.Item words r =
    (flags : Word) × (body : Word) × (words ≡ flags ∷ body ∷ [])
    × SpellsNumber MAX_32 flags r.flags × SpellsBody body r.body × (r.number ≡ 0)
SpellsFields fields.Swap words r =
    (flags : Word) × (body : Word) × (number : Word) × (words ≡ flags ∷ body ∷ number ∷ [])
    × SpellsNumber MAX_32 flags r.flags × SpellsBody body r.body × SpellsNumber MAX_64 number r.number
SpellsFields fields.Amount words r =
    (number : Word) × (words ≡ number ∷ []) × (r.flags ≡ 0) × (r.body ≡ []) × SpellsNumber MAX_64 number r.number

-- the words of a request: its verb, its key, and what else the verb has
abbrev pub SpellsRequest : List Word → Request → Type 0
SpellsRequest words r =
    (others : List Word) × (words ≡ verb_word r.verb ∷ r.key ∷ others)
    × (is_key r.key ≡ true) × SpellsFields (fields_of r.verb) others r

-- ---- replies

-- the word that a reply of the class begins with
abbrev pub class_word : Class → Word
class_word class.Stored = codes "STORED"
class_word class.NotStored = codes "NOT_STORED"
class_word class.Exists = codes "EXISTS"
class_word class.NotFound = codes "NOT_FOUND"
class_word class.Hit = codes "HIT"
class_word class.Miss = codes "MISS"
class_word class.Deleted = codes "DELETED"
class_word class.Touched = codes "TOUCHED"
class_word class.Number = codes "NUMBER"
class_word class.NotNumber = codes "NOT_A_NUMBER"

-- the words after a hit's body: the cas number, where it is shown
abbrev pub SpellsShown : List Word → Option ℕ → Type 0
SpellsShown words None = words ≡ []
SpellsShown words (Some n) = (word : Word) × (words ≡ word ∷ []) × SpellsNumber MAX_64 word n

-- the words of a reply
abbrev pub SpellsReply : List Word → Reply → Type 0
SpellsReply words (reply.Hit flags body cas) =
    (f : Word) × (b : Word) × (shown : List Word) × (words ≡ class_word class.Hit ∷ f ∷ b ∷ shown)
    × SpellsNumber MAX_32 f flags × SpellsBody b body × SpellsShown shown cas
SpellsReply words (reply.Number n) = (word : Word) × (words ≡ class_word class.Number ∷ word ∷ []) × SpellsNumber MAX_64 word n
SpellsReply words r = words ≡ class_word (class_of r) ∷ []

-- ---- words spell at most one value

abbrev pub SpellAtMostOne : {W V : Type 0} → (W → V → Type 0) → Type 0
SpellAtMostOne {W} {V} Spells = (words : W) (v w : V) → Spells words v → Spells words w → v ≡ w

-- ---- what is printed: numbers without leading zeros, and no byte escaped that may stand for itself

-- `%` and the byte's two hexadecimal digits, in lower case
abbrev pub escaped_byte : ℕ → List ℕ
escaped_byte byte = 37 ∷ digit_glyph false (byte / 16) ∷ digit_glyph false (byte % 16) ∷ []

abbrev pub printed_byte : ℕ → List ℕ
printed_byte byte = if is_plain byte then byte ∷ [] else escaped_byte byte

abbrev pub body_word : List ℕ → Word
body_word body = 61 ∷ flat_map printed_byte body

-- the words after the key
abbrev pub field_words : Fields → Request → List Word
field_words fields.KeyAlone r = []
field_words fields.Expiry r = []
field_words fields.Item r = decimal r.flags ∷ body_word r.body ∷ []
field_words fields.Swap r = decimal r.flags ∷ body_word r.body ∷ decimal r.number ∷ []
field_words fields.Amount r = decimal r.number ∷ []

abbrev pub request_words : Request → List Word
request_words r = verb_word r.verb ∷ r.key ∷ field_words (fields_of r.verb) r

-- the word after a hit's body, where the cas number is shown
abbrev pub shown_words : Option ℕ → List Word
shown_words None = []
shown_words (Some n) = decimal n ∷ []

abbrev pub reply_words : Reply → List Word
reply_words (reply.Hit flags body cas) = class_word class.Hit ∷ decimal flags ∷ body_word body ∷ shown_words cas
reply_words (reply.Number n) = class_word class.Number ∷ decimal n ∷ []
reply_words r = class_word (class_of r) ∷ []

-- the words, with one space between them
abbrev pub join_words : List Word → List ℕ
join_words words = join_with_byte 32 words
