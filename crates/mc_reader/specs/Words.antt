-- What the words of a line say (protocol.txt). Exactly one space stands between two words; where there are more, an empty
-- word stands between them.
use Rattle.std.specs.Prelude.{ℕ, ◌==◌, Bool, true, false, not, ◌&&◌, ◌||◌, nat_le, Option, Some, None}
use Rattle.std.specs.Prelude.{Result, Ok, Err, List, [], ◌∷◌, length, drop, codes, if◌then◌else◌}
use Rattle.std.specs.{List.list_all, List.slice_split, List.before_first, Option.option_map, Str.bytes_eq, Str.Parse.digits_value}
use Rattle.mc_protocol.specs.declared.limits.TheConstants.{REPLY_BODY_LIMIT}
use Rattle.mc_protocol.specs.{Decimals.MAX_32, Decimals.MAX_64, Decimals.has_digits_alone, Legal.class_of, Legal.is_legal}
use Rattle.mc_protocol.specs.{Legal.shows_number, Lines.Word, Lines.Words, declared.reply.Reply.Reply, declared.request.Verb.Verb}
use Rattle.mc_protocol.specs.declared.reply.Class.TheVariants as class
use Rattle.mc_protocol.specs.declared.reply.Reply.TheVariants as reply
use Rattle.mc_reader.specs.declared.fault.ErrorKind.TheVariants.{Error, Client, Server}
use Rattle.mc_reader.specs.declared.limits.TheConstants.{NUMBER_SPACES_LIMIT}
use Rattle.mc_reader.specs.{ReadFaults.error_word, declared.fault.ErrorKind.ErrorKind, declared.fault.ReadFault.ReadFault}
use Rattle.mc_reader.specs.{declared.said.Said.Said, declared.said.Said.TheVariants.Whole, declared.said.Said.TheVariants.Hit}
use Rattle.mc_reader.specs.declared.fault.ReadFault.TheVariants as fault

abbrev pub is_space : ℕ → Bool
is_space byte = byte == 32

-- the words of a text
abbrev pub words_of : List ℕ → Words
words_of text = slice_split is_space text

-- the first word of a text
abbrev pub first_word : List ℕ → Word
first_word text = before_first is_space text

-- ---- replies of one word

-- the reply that the text is, where one word is the whole reply
unfoldable pub reply_of_word : List ℕ → Option Reply
reply_of_word text =
    if bytes_eq text (codes "STORED") then Some reply.Stored
    else if bytes_eq text (codes "NOT_STORED") then Some reply.NotStored
    else if bytes_eq text (codes "EXISTS") then Some reply.Exists
    else if bytes_eq text (codes "NOT_FOUND") then Some reply.NotFound
    else if bytes_eq text (codes "END") then Some reply.Miss
    else if bytes_eq text (codes "DELETED") then Some reply.Deleted
    else if bytes_eq text (codes "TOUCHED") then Some reply.Touched
    else None

-- ---- errors

-- the error that the text reports: its word stands alone, or a space and any text follow it
unfoldable pub error_of : List ℕ → Option ErrorKind
error_of text =
    if bytes_eq (first_word text) (error_word Error) then Some Error
    else if bytes_eq (first_word text) (error_word Client) then Some Client
    else if bytes_eq (first_word text) (error_word Server) then Some Server
    else None

-- what an error says to the verb: a count that there is no number, and any other that it failed
unfoldable pub error_says : Verb → ErrorKind → Result Said ReadFault
error_says verb Error = Err (fault.ErrorLine Error)
error_says verb Client = if is_legal verb class.NotNumber then Ok (Whole reply.NotNumber) else Err (fault.ErrorLine Client)
error_says verb Server = Err (fault.ErrorLine Server)

-- ---- numbers

abbrev pub are_spaces : List ℕ → Bool
are_spaces bytes = list_all is_space bytes

-- the number that the digits stand for, where it is small enough
abbrev pub number_up_to : ℕ → Word → Option ℕ
number_up_to greatest digits = if nat_le (digits_value 10 digits) greatest then Some (digits_value 10 digits) else None

-- the number that the text is: digits, and spaces after them
unfoldable pub number_says : List ℕ → Result Said ReadFault
number_says text =
    let digits = first_word text in
    let spaces = drop (length digits) text in
    if has_digits_alone digits && are_spaces spaces && nat_le (length spaces) NUMBER_SPACES_LIMIT
    then (if nat_le (digits_value 10 digits) MAX_64 then Ok (Whole (reply.Number (digits_value 10 digits))) else Err fault.NumberTooLarge)
    else Err fault.NotAReply

-- ---- hits

-- a number where one stands
abbrev pub is_cas_word : Option Word → Bool
is_cas_word None = true
is_cas_word (Some cas) = has_digits_alone cas

-- these are what stands after the word VALUE: a key, and numbers
abbrev pub are_item_words : Word → Word → Word → Option Word → Bool
are_item_words name flags body_len cas = not (length name == 0) && has_digits_alone flags && has_digits_alone body_len && is_cas_word cas

-- the number is above 64 bits
abbrev pub is_too_large : Option Word → Bool
is_too_large None = false
is_too_large (Some cas) = not (nat_le (digits_value 10 cas) MAX_64)

-- what the words after VALUE say of the item with this key, faults in their order
unfoldable pub item_says : Word → Word → Word → Word → Option Word → Result Said ReadFault
item_says key name flags body_len cas =
    if not (are_item_words name flags body_len cas) then Err fault.NotAReply
    else if not (bytes_eq name key) then Err fault.WrongKey
    else if not (nat_le (digits_value 10 flags) MAX_32) || is_too_large cas then Err fault.NumberTooLarge
    else if not (nat_le (digits_value 10 body_len) REPLY_BODY_LIMIT) then Err fault.DataTooLong
    else Ok (Hit (record { flags = digits_value 10 flags; body_len = digits_value 10 body_len; cas = option_map (digits_value 10) cas }))

-- what the words of a line say where they may be those of a hit: only gets shows the cas unique
unfoldable pub hit_says : Verb → Word → Words → Result Said ReadFault
hit_says verb key (value ∷ name ∷ flags ∷ body_len ∷ []) =
    if bytes_eq value (codes "VALUE") && not (shows_number verb) then item_says key name flags body_len None else Err fault.NotAReply
hit_says verb key (value ∷ name ∷ flags ∷ body_len ∷ cas ∷ []) =
    if bytes_eq value (codes "VALUE") && shows_number verb then item_says key name flags body_len (Some cas) else Err fault.NotAReply
hit_says verb key words = Err fault.NotAReply

-- ---- whole texts

-- the verb's replies of more than one word
unfoldable pub others_say : Verb → Word → List ℕ → Result Said ReadFault
others_say verb key text =
    if is_legal verb class.Number then number_says text
    else if is_legal verb class.Hit then hit_says verb key (words_of text)
    else Err fault.NotAReply

abbrev pub says_after_words : Verb → Word → List ℕ → Option ErrorKind → Result Said ReadFault
says_after_words verb key text None = others_say verb key text
says_after_words verb key text (Some kind) = error_says verb kind

abbrev pub says_after_word : Verb → Word → List ℕ → Option Reply → Result Said ReadFault
says_after_word verb key text None = says_after_words verb key text (error_of text)
says_after_word verb key text (Some r) = if is_legal verb (class_of r) then Ok (Whole r) else Err fault.NotAReply

-- what a text says to a request of this verb and key
unfoldable pub text_says : Verb → Word → List ℕ → Result Said ReadFault
text_says verb key text = says_after_word verb key text (reply_of_word text)

-- what is wrong with the text in the place of the END after a block: nothing, where it is END
abbrev pub end_fault_after : Option ErrorKind → ReadFault
end_fault_after None = fault.NotAReply
end_fault_after (Some kind) = fault.ErrorLine kind

unfoldable pub end_fault : List ℕ → Option ReadFault
end_fault text = if bytes_eq text (codes "END") then None else Some (end_fault_after (error_of text))

-- the words after a word, of what comes after it, the space included
abbrev pub words_after : List ℕ → Words
words_after [] = []
words_after (space ∷ text) = words_of text
