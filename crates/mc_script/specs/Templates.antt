-- Templates: which are well formed. `keys`, `flags` and `vars` are how many of each are declared.
use Rattle.std.specs.Prelude.{◌≡◌, ℕ, ◌<◌, ◌==◌, nat_le, nat_lt, Bool, true, false, ◌&&◌, List, length, ◌^◌}
use Rattle.std.specs.Int.Bits.{bit_and}
use Rattle.mc_protocol.specs.{Fields.fields_of, Decimals.MAX_32, Decimals.MAX_64}
use Rattle.mc_script.specs.{Values.Fields, Values.Argument, Values.Template, ScriptWords.is_body}
use Rattle.mc_script.specs.Values.fields
use Rattle.mc_script.specs.Values.argument

-- ---- the words after the key

abbrev pub is_nothing : Argument → Bool
is_nothing argument.Nothing = true
is_nothing _ = false

-- one of `vars` variables
abbrev pub is_variable : ℕ → Argument → Bool
is_variable vars (argument.Variable v) = nat_lt v vars
is_variable vars _ = false

-- a number of 64 bits, or one of `vars` variables
abbrev pub is_amount : ℕ → Argument → Bool
is_amount vars argument.Nothing = false
is_amount vars (argument.Number n) = nat_le n MAX_64
is_amount vars (argument.Variable v) = nat_lt v vars

abbrev pub is_empty : List ℕ → Bool
is_empty body = length body == 0

-- flags of 32 bits, the argument and the body are what the verb has, and 0, nothing and empty where it has none
abbrev pub has_fields : ℕ → Fields → ℕ → Argument → List ℕ → Bool
has_fields vars fields.Item flags a body = nat_le flags MAX_32 && is_nothing a && is_body body
has_fields vars fields.Swap flags a body = nat_le flags MAX_32 && is_variable vars a && is_body body
has_fields vars fields.Amount flags a body = flags == 0 && is_amount vars a && is_empty body
has_fields vars _ flags a body = flags == 0 && is_nothing a && is_empty body

-- ---- the whole template

-- its key, its variable and its flags are declared; no flag is needed both set and clear, or both set and cleared
pub record IsTemplate (keys flags vars : ℕ) (t : Template) : Type 0 where
  pub key : t.key < keys
  pub fields : has_fields vars (fields_of t.verb) t.flags t.argument t.body ≡ true
  pub require_set : t.require_set < 2 ^ flags
  pub require_clear : t.require_clear < 2 ^ flags
  pub sets : t.sets < 2 ^ flags
  pub clears : t.clears < 2 ^ flags
  pub needs_apart : bit_and t.require_set t.require_clear ≡ 0
  pub changes_apart : bit_and t.sets t.clears ≡ 0
