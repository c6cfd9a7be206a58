-- Decimals, as every text writes its numbers.
use Rattle.std.specs.Prelude.{◌≡◌, ℕ, ◌≤◌, ◌==◌, nat_le, Bool, true, not, ◌&&◌, Result, Ok, Err, length, if◌then◌else◌}
use Rattle.std.specs.{List.list_all, Str.Parse.digits_value}
use Rattle.mc_protocol.specs.{Lines.Word, declared.decimal.DecimalFault.DecimalFault, declared.limits.TheConstants.DIGITS_LIMIT}
use Rattle.mc_protocol.specs.{declared.decimal.DecimalFault.TheVariants.NotDigits, declared.decimal.DecimalFault.TheVariants.TooLarge}

-- the greatest numbers of 32 and of 64 bits
abbrev pub MAX_32 : ℕ
MAX_32 = 4294967295

abbrev pub MAX_64 : ℕ
MAX_64 = 18446744073709551615

abbrev pub is_digit : ℕ → Bool
is_digit byte = nat_le 48 byte && nat_le byte 57

abbrev pub are_digits : Word → Bool
are_digits word = list_all is_digit word

-- digits and nothing else, and at least one
abbrev pub has_digits_alone : Word → Bool
has_digits_alone word = not (length word == 0) && are_digits word

-- the word is a decimal of 1 to 20 digits for n, which is at most the greatest; zeros may lead
pub record SpellsNumber (greatest : ℕ) (word : Word) (n : ℕ) : Type 0 where
  pub some : not (length word == 0) ≡ true
  pub digits : are_digits word ≡ true
  pub short : length word ≤ DIGITS_LIMIT
  pub value : digits_value 10 word ≡ n
  pub small : n ≤ greatest

-- what the word is read as: the number that it spells, or why it spells none
unfoldable pub decimal_in : ℕ → Word → Result ℕ DecimalFault
decimal_in greatest word =
    if has_digits_alone word
    then (if nat_le (length word) DIGITS_LIMIT && nat_le (digits_value 10 word) greatest then Ok (digits_value 10 word) else Err TooLarge)
    else Err NotDigits
