-- Names: of keys, and of whatever else a script declares.
use Rattle.std.specs.Prelude.{ℕ, ◌==◌, nat_le, Bool, true, not, ◌&&◌, ◌||◌, Option, List, [], ◌∷◌, length}
use Rattle.std.specs.{List.list_all, List.list_any, List.position, Str.bytes_eq}
use Rattle.mc_protocol.specs.declared.limits.TheConstants.{KEY_BYTES_LIMIT}

-- a lower case letter, a digit or a dash
abbrev pub is_name_byte : ℕ → Bool
is_name_byte byte = (nat_le 97 byte && nat_le byte 122) || (nat_le 48 byte && nat_le byte 57) || byte == 45

abbrev pub are_name_bytes : List ℕ → Bool
are_name_bytes bytes = list_all is_name_byte bytes

-- a name: 1 to `limit` bytes, each a lower case letter, a digit or a dash
abbrev pub is_name : ℕ → List ℕ → Bool
is_name limit bytes = not (length bytes == 0) && nat_le (length bytes) limit && are_name_bytes bytes

-- a key that a text may have: a name of at most 40 bytes
abbrev pub is_key : List ℕ → Bool
is_key bytes = is_name KEY_BYTES_LIMIT bytes

-- the name is none of these
abbrev pub is_new : List (List ℕ) → List ℕ → Bool
is_new names name = not (list_any (bytes_eq name) names)

-- no two of these are equal
abbrev pub are_distinct : List (List ℕ) → Bool
are_distinct [] = true
are_distinct (name ∷ names) = is_new names name && are_distinct names

-- where the name first stands among these
abbrev pub index_of : List (List ℕ) → List ℕ → Option ℕ
index_of names name = position (λ other. bytes_eq other name) names
