-- What the readers of words answer, kind by kind of their faults. Of the public contracts only those of `read_number` and
-- `read_body` cite it, to say which kind comes. `Words.antt` says what words spell, and the proofs join the two.
use Rattle.std.specs.Prelude.{◌≡◌, ℕ, ◌+◌, ◌*◌, ◌==◌, nat_le, Option, Some, None, Result, Ok, Err, List, [], ◌∷◌, length, if◌then◌else◌}
use Rattle.std.specs.{List.find, Str.bytes_eq}
use Rattle.mc_protocol.specs.declared.decimal.DecimalFault.{DecimalFault}
use Rattle.mc_protocol.specs.{Words.verb_of, Words.all_classes, Decimals.decimal_in, Decimals.MAX_32, Decimals.MAX_64}
use Rattle.mc_protocol.specs.{Fields.fields_of, Names.is_key}
use Rattle.mc_model.specs.Types.{Verb, Fields, Request, Reply, Class, REPLY_BODY_LIMIT, Word}
use Rattle.mc_words.specs.{declared.words_fault.WordsFault.WordsFault, declared.words_fault.WordsKind.WordsKind}
use Rattle.mc_words.specs.Words.{is_plain, hex_value, class_word}
use Rattle.mc_protocol.specs.declared.request.Fields.TheVariants as fields
use Rattle.mc_protocol.specs.declared.reply.Reply.TheVariants as reply
use Rattle.mc_protocol.specs.declared.reply.Class.TheVariants as class
use Rattle.mc_protocol.specs.declared.decimal.DecimalFault.TheVariants as decimal
use Rattle.mc_words.specs.declared.words_fault.WordsKind.TheVariants as kind

infixl 10 ◌>>=◌
abbrev pub ◌>>=◌ : {A B : Type 0} → Result A WordsKind → (A → Result B WordsKind) → Result B WordsKind
(Ok x) >>= f = f x
(Err e) >>= f = Err e

-- what was returned, seen by view, is what reading gives, unless memory ran out
abbrev pub Fails : {Y : Type 0} → WordsKind → Result Y WordsKind → Type 0
Fails kind.OutOfMemory read = Unit {0}
Fails kind.Form read = read ≡ Err kind.Form
Fails kind.Number read = read ≡ Err kind.Number

abbrev pub Gives : {X Y : Type 0} → (X → Y) → Result X WordsFault → Result Y WordsKind → Type 0
Gives view (Ok x) read = read ≡ Ok (view x)
Gives view (Err e) read = Fails e.kind read

-- a number, or why a word is none
abbrev pub number_or_fault : Result ℕ DecimalFault → Result ℕ WordsKind
number_or_fault (Ok n) = Ok n
number_or_fault (Err decimal.NotDigits) = Err kind.Form
number_or_fault (Err decimal.TooLarge) = Err kind.Number

abbrev pub number_in : ℕ → Word → Result ℕ WordsKind
number_in greatest word = number_or_fault (decimal_in greatest word)

abbrev pub if_plain : ℕ → List ℕ → Result (Option (ℕ × List ℕ)) WordsKind
if_plain byte rest = if is_plain byte then Ok (Some (byte, rest)) else Err kind.Form

abbrev pub if_hex : Option ℕ → Option ℕ → List ℕ → Result (Option (ℕ × List ℕ)) WordsKind
if_hex (Some high) (Some low) rest = Ok (Some (high * 16 + low, rest))
if_hex _ _ rest = Err kind.Form

-- the first byte that a text stands for, and what follows
abbrev pub first_byte_in : List ℕ → Result (Option (ℕ × List ℕ)) WordsKind
first_byte_in [] = Ok None
first_byte_in (a ∷ []) = if_plain a []
first_byte_in (a ∷ b ∷ []) = if_plain a (b ∷ [])
first_byte_in (a ∷ b ∷ c ∷ rest) = if a == 37 then if_hex (hex_value b) (hex_value c) rest else if_plain a (b ∷ c ∷ rest)

-- a byte before the bytes that follow
abbrev pub in_front : ℕ → Result (List ℕ) WordsKind → Result (List ℕ) WordsKind
in_front byte (Ok bytes) = Ok (byte ∷ bytes)
in_front byte (Err e) = Err e

abbrev pub plain_before : ℕ → Result (List ℕ) WordsKind → Result (List ℕ) WordsKind
plain_before byte read = if is_plain byte then in_front byte read else Err kind.Form

abbrev pub hex_before : Option ℕ → Option ℕ → Result (List ℕ) WordsKind → Result (List ℕ) WordsKind
hex_before (Some high) (Some low) read = in_front (high * 16 + low) read
hex_before _ _ read = Err kind.Form

-- the bytes that a text stands for
abbrev pub bytes_in : List ℕ → Result (List ℕ) WordsKind
bytes_in [] = Ok []
bytes_in (a ∷ []) = plain_before a (Ok [])
bytes_in (a ∷ b ∷ []) = plain_before a (bytes_in (b ∷ []))
bytes_in (a ∷ b ∷ c ∷ rest) = if a == 37 then hex_before (hex_value b) (hex_value c) (bytes_in rest) else plain_before a
    (bytes_in (b ∷ c ∷ rest))

abbrev pub within_limit : List ℕ → Result (List ℕ) WordsKind
within_limit bytes = if nat_le (length bytes) REPLY_BODY_LIMIT then Ok bytes else Err kind.Form

unfoldable pub body_in : Word → Result (List ℕ) WordsKind
body_in [] = Err kind.Form
body_in (first ∷ text) = if first == 61 then (bytes_in text >>= within_limit) else Err kind.Form

-- what was read, where no word follows
abbrev pub at_end : {A : Type 0} → A → List Word → Result A WordsKind
at_end x [] = Ok x
at_end x (_ ∷ _) = Err kind.Form

-- a number that is the last word
abbrev pub last_number_in : List Word → Result ℕ WordsKind
last_number_in [] = Err kind.Form
last_number_in (number ∷ others) = number_in MAX_64 number >>= λ n. at_end n others

-- flags and a body, and the words that follow
abbrev pub flags_and_body_in : List Word → Result (ℕ × List ℕ × List Word) WordsKind
flags_and_body_in [] = Err kind.Form
flags_and_body_in (flags ∷ []) = number_in MAX_32 flags >>= λ f. Err kind.Form
flags_and_body_in (flags ∷ body ∷ others) = number_in MAX_32 flags >>= λ f. body_in body >>= λ b. Ok (f, b, others)

-- flags, a body and a number, by what the verb has after its key
abbrev pub fields_in : Fields → List Word → Result (ℕ × List ℕ × ℕ) WordsKind
fields_in fields.KeyAlone words = at_end (0, [], 0) words
fields_in fields.Expiry words = at_end (0, [], 0) words
fields_in fields.Item words = flags_and_body_in words >>= λ x. at_end (x.0, x.1, 0) x.2
fields_in fields.Swap words = flags_and_body_in words >>= λ x. last_number_in x.2 >>= λ n. Ok (x.0, x.1, n)
fields_in fields.Amount words = last_number_in words >>= λ n. Ok (0, [], n)

-- a request with these
abbrev pub request_of : Verb → List ℕ → ℕ × List ℕ × ℕ → Request
request_of verb key x = record { verb = verb; key = key; flags = x.0; body = x.1; number = x.2 }

abbrev pub after_verb : Option Verb → List Word → Result Request WordsKind
after_verb None words = Err kind.Form
after_verb (Some verb) [] = Err kind.Form
after_verb (Some verb) (key ∷ others) =
    if is_key key then (fields_in (fields_of verb) others >>= λ x. Ok (request_of verb key x)) else Err kind.Form

unfoldable pub request_in : List Word → Result Request WordsKind
request_in [] = Err kind.Form
request_in (word ∷ words) = after_verb (verb_of word) words

unfoldable pub class_of_word : Word → Option Class
class_of_word word = find (λ c. bytes_eq (class_word c) word) all_classes

abbrev pub shown_number_in : List Word → Result (Option ℕ) WordsKind
shown_number_in [] = Ok None
shown_number_in (number ∷ others) = last_number_in (number ∷ others) >>= λ n. Ok (Some n)

abbrev pub hit_in : List Word → Result Reply WordsKind
hit_in words = flags_and_body_in words >>= λ x. shown_number_in x.2 >>= λ n. Ok (reply.Hit x.0 x.1 n)

abbrev pub after_class : Option Class → List Word → Result Reply WordsKind
after_class None words = Err kind.Form
after_class (Some class.Stored) words = at_end reply.Stored words
after_class (Some class.NotStored) words = at_end reply.NotStored words
after_class (Some class.Exists) words = at_end reply.Exists words
after_class (Some class.NotFound) words = at_end reply.NotFound words
after_class (Some class.Hit) words = hit_in words
after_class (Some class.Miss) words = at_end reply.Miss words
after_class (Some class.Deleted) words = at_end reply.Deleted words
after_class (Some class.Touched) words = at_end reply.Touched words
after_class (Some class.Number) words = last_number_in words >>= λ n. Ok (reply.Number n)
after_class (Some class.NotNumber) words = at_end reply.NotNumber words

unfoldable pub reply_in : List Word → Result Reply WordsKind
reply_in [] = Err kind.Form
reply_in (word ∷ words) = after_class (class_of_word word) words
