-- A word is read as a number exactly where it spells it.
use Rattle.std.proofs.Common.{◌≡◌, ℕ, ◌==◌, ◌<◌, ◌≤◌, ◌^◌, decimal, arith, nat_le, Bool, true, false}
use Rattle.std.proofs.Common.{not, ◌&&◌, cond, Result, Ok, Err, length, refl, sym, ap, ◌∙◌}
use Rattle.std.proofs.lemmas.Fmt.{decimal_nonempty, digits_decimal, digits_value-decimal, length-decimal-le}
use Rattle.std.proofs.{lemmas.Bool.leb-true, lemmas.Bool.le-leb, lemmas.Bool.and_parts, lemmas.Bool.Decides.nat_tests}
use Rattle.std.specs.Str.Parse.{digits_value}
use Rattle.mc_protocol.specs.declared.decimal.DecimalFault.TheVariants.{NotDigits, TooLarge}
use Rattle.mc_protocol.specs.Decimals.{SpellsNumber, MAX_64, are_digits, has_digits_alone, decimal_in}
use Rattle.mc_protocol.specs.{declared.decimal.DecimalFault.DecimalFault, declared.limits.TheConstants.DIGITS_LIMIT, Lines.Word}
use Rattle.mc_protocol.proofs.Digits.{digits}

not_empty : (n : ℕ) → 0 < n → not (n == 0) ≡ true
not_empty n some = grind (arith, nat_tests)

-- what an answer went through
given : (b : Bool) (x : Result ℕ DecimalFault) (e : DecimalFault) (n : ℕ) → cond b x (Err e) ≡ Ok n → (b ≡ true) × (x ≡ Ok n)
given true x e n h = (refl, h)
given false x e n h = absurd (cc)

same : (m n : ℕ) (x : Result ℕ DecimalFault) → x ≡ Ok m → x ≡ Ok n → m ≡ n
same m n x e h = cc

pub decimal-spelled : (greatest : ℕ) (word : Word) (n : ℕ) → decimal_in greatest word ≡ Ok n → SpellsNumber greatest word n
unfolding decimal_in
decimal-spelled greatest word n h =
    let p = given (has_digits_alone word) _ NotDigits n h in
    let q = given (nat_le (length word) DIGITS_LIMIT && nat_le (digits_value 10 word) greatest) (Ok (digits_value 10 word)) TooLarge n p.1 in
    let some = and_parts (not (length word == 0)) (are_digits word) p.0 in
    let fits = and_parts (nat_le (length word) DIGITS_LIMIT) (nat_le (digits_value 10 word) greatest) q.0 in
    let value = same (digits_value 10 word) n (Ok (digits_value 10 word)) refl q.1 in
    record { some = some.0; digits = some.1; short = leb-true _ _ fits.0; value = value; small = rw value at (leb-true (digits_value 10 word) greatest fits.1) }

pub decimal-read : (greatest : ℕ) (word : Word) (n : ℕ) → SpellsNumber greatest word n → decimal_in greatest word ≡ Ok n
unfolding decimal_in
decimal-read greatest word n s =
    let small : nat_le (digits_value 10 word) greatest ≡ true = rw s.value (le-leb n greatest s.small) in
    rw (s.some, s.digits, le-leb (length word) DIGITS_LIMIT s.short, small) (ap Ok s.value)

-- the decimal of a number spells it
pub decimal-spells : (greatest n : ℕ) → greatest ≤ MAX_64 → n ≤ greatest → SpellsNumber greatest (decimal n) n
decimal-spells greatest n large small =
    let below : n < 2 ^ 64 = omega arith in
    record {
      some = not_empty (length (decimal n)) (decimal_nonempty n below);
      digits = digits_decimal digits n below;
      short = length-decimal-le 20 n (omega arith) (omega arith) below;
      value = digits_value-decimal digits n below;
      small = small;
    }

-- a word spells one number
pub one_number : (greatest other : ℕ) (word : Word) (m n : ℕ) → SpellsNumber greatest word m → SpellsNumber other word n → m ≡ n
one_number greatest other word m n s t = sym s.value ∙ t.value
