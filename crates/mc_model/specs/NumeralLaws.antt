-- Which bodies say a number, by how they are written.
use Rattle.std.specs.Prelude.{◌≡◌, ◌↔◌, ℕ, ◌<◌, ◌≤◌, ◌^◌, true, false, Some, List, ◌++◌, length}
use Rattle.std.specs.Str.Parse.{digits_value}
use Rattle.mc_protocol.specs.Decimals.{are_digits}
use Rattle.mc_model.specs.Numeral.{numeral_of, read_as, ends_or_has_space, are_spaces}

-- digits, and after them nothing, or a space and what follows it
pub record BeginsWithNumber (body : List ℕ) (n : ℕ) : Type 0 where
  pub digits : List ℕ
  pub rest : List ℕ
  pub whole : body ≡ digits ++ rest
  pub are : are_digits digits ≡ true
  pub some : 0 < length digits
  pub ends : ends_or_has_space rest ≡ true
  pub value : digits_value 10 digits ≡ n
  pub small : n < 2 ^ 64

-- up to 20 digits, and spaces
pub record IsPlainNumber (body : List ℕ) (n : ℕ) : Type 0 where
  pub number : BeginsWithNumber body n
  pub few : length number.digits ≤ 20
  pub spaces : are_spaces number.rest ≡ true

-- a server that reads all that it may reads the bodies that begin with a number
abbrev pub WillingReads : Type 0
WillingReads = (body : List ℕ) (n : ℕ) → (read_as true (numeral_of body) ≡ Some n) ↔ BeginsWithNumber body n

-- one that reads only what it must reads the plain ones
abbrev pub StrictReads : Type 0
StrictReads = (body : List ℕ) (n : ℕ) → (read_as false (numeral_of body) ≡ Some n) ↔ IsPlainNumber body n
