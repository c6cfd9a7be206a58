-- What a body says as a number: what incr and decr make of it.
use Rattle.std.specs.Prelude.{ℕ, ◌==◌, ◌^◌, nat_le, nat_lt, Bool, true, false, not, ◌&&◌, Option, Some}
use Rattle.std.specs.Prelude.{None, List, [], ◌∷◌, length, drop, take_while, if◌then◌else◌}
use Rattle.std.specs.{List.list_all, Str.Parse.digits_value}
use Rattle.mc_protocol.specs.Decimals.{is_digit}
use Rattle.mc_model.specs.Types.{Numeral, NoNumber, Is, MayBe}

abbrev pub leading_digits : List ℕ → List ℕ
leading_digits body = take_while is_digit body

-- what comes after the leading digits
abbrev pub after_digits : List ℕ → List ℕ
after_digits body = drop (length (leading_digits body)) body

abbrev pub is_space : ℕ → Bool
is_space byte = byte == 32

-- nothing, or a space and what follows it
abbrev pub ends_or_has_space : List ℕ → Bool
ends_or_has_space [] = true
ends_or_has_space (byte ∷ bytes) = is_space byte

abbrev pub value_of : List ℕ → ℕ
value_of digits = digits_value 10 digits

-- the digits are a number of 64 bits, and the body ends after them or goes on with a space
abbrev pub is_readable : List ℕ → List ℕ → Bool
is_readable digits rest = not (length digits == 0) && ends_or_has_space rest && nat_lt (value_of digits) (2 ^ 64)

abbrev pub are_spaces : List ℕ → Bool
are_spaces bytes = list_all is_space bytes

-- at most 20 digits, and then nothing but spaces: every server reads that
abbrev pub is_plain_numeral : List ℕ → List ℕ → Bool
is_plain_numeral digits rest = nat_le (length digits) 20 && are_spaces rest

abbrev pub numeral_of_parts : List ℕ → List ℕ → Numeral
numeral_of_parts digits rest =
    if not (is_readable digits rest) then NoNumber
    else (if is_plain_numeral digits rest then Is (value_of digits) else MayBe (value_of digits))

-- what a body says
abbrev pub numeral_of : List ℕ → Numeral
numeral_of body = numeral_of_parts (leading_digits body) (after_digits body)

-- the number that is read, by the choice where there is one
abbrev pub read_as : Bool → Numeral → Option ℕ
read_as read NoNumber = None
read_as read (Is n) = Some n
read_as true (MayBe n) = Some n
read_as false (MayBe n) = None
