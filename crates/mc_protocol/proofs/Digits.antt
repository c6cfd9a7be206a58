-- The number that digits stand for.
use Rattle.std.proofs.Common.{◌≡◌, ℕ, ◌<◌, ◌^◌, true, List, length, Result, Ok, Err, ⊎_elim, arith, rules}
use Rattle.std.proofs.lemmas.Str.Parse.{IsNumeralModel, numerals_by_value, digit_at, parse_digits}
use Rattle.std.proofs.{lemmas.Bool.cases_lt, lemmas.List.get_or_past, lemmas.Str.IsUtf8-from_ascii}
use Rattle.std.specs.{Option.MatchOption, Result.result_ok, Str.IsUtf8, Str.Parse.digits_value, Str.Parse.ParsesUnsigned}
use Rattle.mc_protocol.specs.Decimals.{are_digits, MAX_64}

-- the digits are those of std, and they have its value
pub digits : IsNumeralModel (λ ds. are_digits ds ≡ true) (digits_value 10)
digits = numerals_by_value _ (search rules)

-- digits are a text
pub IsUtf8-digits : (ds : List ℕ) → are_digits ds ≡ true → IsUtf8 ds
IsUtf8-digits ds p = IsUtf8-from_ascii ds
    (λ i. ⊎_elim (λ below. let d = digit_at ds i (digits.to ds p) below in omega arith) (λ past. omega (arith, get_or_past ds i 0 past))
    (cases_lt i (length ds)))

-- what parsing them gives: their number, or nothing where 64 bits don't hold it
pub parsed_digits : {E : Type 0} (ds : List ℕ) (r : Result ℕ E) → ParsesUnsigned 64 10 ds r → are_digits ds ≡ true → 0 < length ds
    → MatchOption (result_ok r) (MAX_64 < digits_value 10 ds) (λ n. n ≡ digits_value 10 ds)
parsed_digits {E} ds (Ok n) h p some = (parse_digits digits {E = E} 64 ds (Ok n) h p).1
parsed_digits {E} ds (Err e) h p some =
    ⊎_elim (λ small. absurd (parse_digits digits {E = E} 64 ds (Err e) h p (some, small))) (λ large. omega arith) (cases_lt (digits_value 10 ds) (2 ^ 64))
