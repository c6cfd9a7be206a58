-- The numbers and keys in the words of a request (protocol.txt). A word isn't empty.
use Rattle.std.specs.Prelude.{◌≡◌, ℕ, ◌==◌, Bool, true, false, not, ◌&&◌, nat_le, nat_lt}
use Rattle.std.specs.Prelude.{Option, Some, None, List, [], ◌∷◌, length, if◌then◌else◌}
use Rattle.std.specs.{List.list_all, Str.Parse.digits_value}
use Rattle.mc_protocol.specs.{Decimals.has_digits_alone, Lines.Word}
use Rattle.mc_reader.specs.{Words.is_space, declared.limits.TheConstants.REQUEST_KEY_LIMIT}

-- the number that the word spells, where it is at most the greatest; any number of zeros may lead
unfoldable pub number_in : ℕ → Word → Option ℕ
number_in greatest word =
    if has_digits_alone word && nat_le (digits_value 10 word) greatest then Some (digits_value 10 word) else None

abbrev pub without_minus : Word → Word
without_minus [] = []
without_minus (byte ∷ word) = if byte == 45 then word else byte ∷ word

-- whether the time of expiry is 0, where the word is one: digits, and a minus before them or none
unfoldable pub time_in : Word → Option Bool
time_in word = if has_digits_alone (without_minus word) then Some (list_all (λ byte. byte == 48) (without_minus word)) else None

-- a byte of a key: above the space, and not the one that deletes
abbrev pub is_key_byte : ℕ → Bool
is_key_byte byte = nat_lt 32 byte && not (byte == 127)

abbrev pub is_request_key : Word → Bool
is_request_key word = nat_le (length word) REQUEST_KEY_LIMIT && list_all is_key_byte word

-- nothing, or another byte than a space comes first
abbrev pub BeginsWord : List ℕ → Type 0
BeginsWord [] = Unit {0}
BeginsWord (byte ∷ bytes) = is_space byte ≡ false

-- nothing, or a space comes first
abbrev pub BeginsSpace : List ℕ → Type 0
BeginsSpace [] = Unit {0}
BeginsSpace (byte ∷ bytes) = is_space byte ≡ true
