-- A greater number has no fewer digits.
use Rattle.std.proofs.Common.{ℕ, ◌+◌, ◌/◌, ◌%◌, ◌<◌, ◌≤◌, ◌^◌, ◌≡◌, List, [], ◌∷◌, ◌++◌, length, decimal, ap, arith, ◌∙◌, length-append, ⊎_elim}
use Rattle.std.proofs.{lemmas.Fmt.decimal_digit, lemmas.Fmt.decimal_step, lemmas.Fmt.decimal_by_steps, lemmas.Bool.cases_lt}

length-digit : (n : ℕ) → n < 10 → length (decimal n) ≡ 1
length-digit n small = ap length (decimal_digit n small)

length-step : (n : ℕ) → 10 ≤ n → n < 2 ^ 64 → length (decimal n) ≡ length (decimal (n / 10)) + 1
length-step n lo hi = ap length (decimal_step n lo hi) ∙ length-append (decimal (n / 10)) ((48 + n % 10) ∷ [])

-- no number up to this one has more digits
abbrev HasMost : ℕ → List ℕ → Type 0
HasMost n digits = (m : ℕ) → m ≤ n → m < 2 ^ 64 → length (decimal m) ≤ length digits

most-one : (n : ℕ) → n < 10 → HasMost n ((48 + n) ∷ [])
most-one n small m below fits = let size = length-digit m (omega arith) in omega arith

most-more : (n : ℕ) (digits : List ℕ) → 10 ≤ n → HasMost (n / 10) digits → HasMost n (digits ++ ((48 + n % 10) ∷ []))
most-more n digits lo most m below fits =
    let size : length (digits ++ ((48 + n % 10) ∷ [])) ≡ length digits + 1 = length-append digits ((48 + n % 10) ∷ []) in
    ⊎_elim (λ small. let one = length-digit m small in omega arith)
    (λ large. let step = length-step m large fits in let others = most (m / 10) (omega arith) (omega arith) in omega arith) (cases_lt m 10)

pub more-digits : (m n : ℕ) → m ≤ n → n < 2 ^ 64 → length (decimal m) ≤ length (decimal n)
more-digits m n below small = decimal_by_steps HasMost most-one most-more n small m below (omega arith)
