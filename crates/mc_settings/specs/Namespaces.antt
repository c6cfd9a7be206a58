-- The names that keys may be put under, and which keys become too long by it.
use Rattle.std.specs.Prelude.{◌≡◌, nat_lt, Bool, false, List, ◌++◌, length, codes}
use Rattle.std.specs.List.{All}
use Rattle.mc_protocol.specs.{Lines.Word, Names.is_name, declared.limits.TheConstants.KEY_BYTES_LIMIT}
use Rattle.mc_settings.specs.declared.namespace.TheConstants.{NAMESPACE_BYTES_LIMIT}

-- a name that keys may be under: 1 to 38 bytes, each a lower case letter, a digit or a dash
abbrev pub is_namespace : Word → Bool
is_namespace name = is_name NAMESPACE_BYTES_LIMIT name

-- `NAME-KEY`
abbrev pub key_under : Word → Word → Word
key_under name key = name ++ (codes "-" ++ key)

-- under the name the key has more bytes than a key may have
abbrev pub is_too_long : Word → Word → Bool
is_too_long name key = nat_lt KEY_BYTES_LIMIT (length (key_under name key))

-- none of the keys becomes too long
abbrev pub AreShort : Word → List Word → Type 0
AreShort name keys = All (λ key. is_too_long name key ≡ false) keys
