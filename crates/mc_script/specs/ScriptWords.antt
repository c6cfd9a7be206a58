-- The words of a script that stand for names and bodies.
use Rattle.std.specs.Prelude.{ℕ, nat_le, Bool, ◌&&◌, ◌||◌, List, [], ◌∷◌, ◌++◌, length}
use Rattle.std.specs.List.{list_all}
use Rattle.mc_script.specs.Values.{SCRIPT_BODY_LIMIT, Word, NAME_BYTES_LIMIT}
use Rattle.mc_protocol.specs.{Decimals.is_digit, Names.is_name}

-- ---- names

-- the name of a label
abbrev pub is_label_name : Word → Bool
is_label_name word = is_name NAME_BYTES_LIMIT word

-- `$` and the name of a variable
abbrev pub variable_word : Word → Word
variable_word name = 36 ∷ name

-- the name of a label, and `:`
abbrev pub label_word : Word → Word
label_word name = name ++ 58 ∷ []

-- ---- bodies

-- a letter or a digit
abbrev pub is_body_byte : ℕ → Bool
is_body_byte byte = (nat_le 65 byte && nat_le byte 90) || (nat_le 97 byte && nat_le byte 122) || is_digit byte

abbrev pub are_body_bytes : List ℕ → Bool
are_body_bytes bytes = list_all is_body_byte bytes

-- a body that a script may send: at most 64 bytes, each a letter or a digit
abbrev pub is_body : List ℕ → Bool
is_body bytes = nat_le (length bytes) SCRIPT_BODY_LIMIT && are_body_bytes bytes

-- `=` and the body
abbrev pub body_word : List ℕ → Word
body_word body = 61 ∷ body
