-- What a body says as a number, by the digits that it begins with.
use Rattle.std.proofs.Common.{◌≡◌, ℕ, ◌<◌, ◌≤◌, ◌^◌, Bool, true, false, not, cond, leb, Some, List}
use Rattle.std.proofs.Common.{[], ◌∷◌, ◌++◌, length, take, drop, replicate, refl, sym, ap, ◌∙◌, arith, zero, suc}
use Rattle.std.proofs.lemmas.{List.take-append-drop, List.Sums.take_while-cons, List.Folds.length-prefix_len, Bool.Decides.nat_tests}
use Rattle.std.proofs.lemmas.Fmt.{digits_decimal, digits_value-decimal, length-decimal-le, decimal_nonempty}
use Rattle.std.proofs.{Math.Seq.drop-append_seam, lemmas.Bool.leb-true, lemmas.Bool.eqb-true, lemmas.Bool.and_parts, lemmas.Bool.and_from, lemmas.Bool.le-leb}
use Rattle.std.specs.List.{list_all, take_while}
use Rattle.std.specs.{Str.Parse.digits_value, Fmt.decimal}
use Rattle.mc_protocol.specs.Decimals.{are_digits, is_digit}
use Rattle.mc_protocol.proofs.Digits.{digits as own}
use Rattle.mc_model.specs.Numeral.{numeral_of, numeral_of_parts, leading_digits, after_digits, ends_or_has_space}
use Rattle.mc_model.specs.{Types.Numeral, Types.NoNumber, Types.Is, Types.MayBe, Numeral.are_spaces, Numeral.is_readable, Numeral.is_plain_numeral}
use Rattle.mc_model.specs.{Numeral.read_as, NumeralLaws.BeginsWithNumber, NumeralLaws.IsPlainNumber, NumeralLaws.WillingReads, NumeralLaws.StrictReads}

-- what is taken while a test passes does pass
passing : {X : Type 0} (p : X → Bool) (xs : List X) → list_all p (take_while p xs) ≡ true
passing p [] = refl
passing p (x ∷ xs) = grind (arith, take_while-cons p x xs, passing p xs)

-- a body's front of that many bytes is the digits that lead it
leading_front : (body : List ℕ) → take (length (leading_digits body)) body ≡ leading_digits body
leading_front body = ap (λ n. take n body) (length-prefix_len is_digit body)

-- a body is its leading digits and what comes after them
front_and_rest : (body : List ℕ) → leading_digits body ++ after_digits body ≡ body
front_and_rest body = ap (λ front. front ++ after_digits body) (sym (leading_front body)) ∙ take-append-drop (length (leading_digits body)) body

-- no digit leads what ends at once or goes on with a space
no_leading : (rest : List ℕ) → ends_or_has_space rest ≡ true → leading_digits rest ≡ []
no_leading [] ends = refl
no_leading (byte ∷ bytes) ends = rw (eqb-true byte 32 ends) refl

-- the leading digits of digits and what ends or goes on with a space
leading_of : (digits rest : List ℕ) → are_digits digits ≡ true → ends_or_has_space rest ≡ true → leading_digits (digits ++ rest) ≡ digits
leading_of [] rest are ends = no_leading rest ends
leading_of (d ∷ ds) rest are ends =
    let parts = and_parts (is_digit d) (are_digits ds) are in
    rw (take_while-cons is_digit d (ds ++ rest), parts.0, leading_of ds rest parts.1 ends) refl

-- what is said, by whether the digits are readable and plain
abbrev said : Bool → Bool → ℕ → Numeral
said readable plain value = cond (not readable) NoNumber (cond plain (Is value) (MayBe value))

-- digits that are there, small, and not followed by a letter are readable
readable : (digits rest : List ℕ) → 0 < length digits → ends_or_has_space rest ≡ true → digits_value 10 digits < 2 ^ 64 → is_readable digits rest ≡ true
readable digits rest some ends small = grind (arith, nat_tests)

-- a body that begins with a number says that number, plainly or not
says : (digits rest : List ℕ) → are_digits digits ≡ true → 0 < length digits → ends_or_has_space rest ≡ true → digits_value 10 digits < 2 ^ 64
    → numeral_of (digits ++ rest) ≡ said true (is_plain_numeral digits rest) (digits_value 10 digits)
says digits rest are some ends small =
    let front = leading_of digits rest are ends in
    ap (λ ds. numeral_of_parts ds (after_digits (digits ++ rest))) front
    ∙ ap (numeral_of_parts digits) (ap (λ ds. drop (length ds) (digits ++ rest)) front ∙ drop-append_seam digits rest)
    ∙ ap (λ b. said b (is_plain_numeral digits rest) (digits_value 10 digits)) (readable digits rest some ends small)

-- spaces are spaces
spaces_are : (k : ℕ) → are_spaces (replicate k 32) ≡ true
spaces_are zero = refl
spaces_are (suc k) = spaces_are k

-- and end what stands before them
spaces_end : (k : ℕ) → ends_or_has_space (replicate k 32) ≡ true
spaces_end zero = refl
spaces_end (suc k) = refl

-- up to 20 digits and spaces say their number plainly
plainly : (digits : List ℕ) (spaces : ℕ) → are_digits digits ≡ true → 0 < length digits → length digits ≤ 20 → digits_value 10 digits < 2 ^ 64
    → numeral_of (digits ++ replicate spaces 32) ≡ Is (digits_value 10 digits)
plainly digits spaces are some few small =
    says digits (replicate spaces 32) are some (spaces_end spaces) small
    ∙ ap (λ b. said true b (digits_value 10 digits))
    (and_from (leb (length digits) 20) (are_spaces (replicate spaces 32)) (le-leb (length digits) 20 few) (spaces_are spaces))

-- a decimal, and spaces after it, say the number
pub decimal_says : (n spaces : ℕ) → n < 2 ^ 64 → numeral_of (decimal n ++ replicate spaces 32) ≡ Is n
decimal_says n spaces small =
    let value = digits_value-decimal own n small in
    plainly (decimal n) spaces (digits_decimal own n small) (decimal_nonempty n small)
    (length-decimal-le 20 n (omega arith) (omega arith) small) (rw value small)
    ∙ ap Is value

-- what a willing server reads is readable
willing : (is plain : Bool) (value n : ℕ) → read_as true (said is plain value) ≡ Some n → (is ≡ true) × (value ≡ n)
willing is plain value n e = grind arith

-- what a strict server reads is plain too
strict : (is plain : Bool) (value n : ℕ) → read_as false (said is plain value) ≡ Some n → (is ≡ true) × (plain ≡ true) × (value ≡ n)
strict is plain value n e = grind arith

-- a willing server reads what is readable
willing_from : (plain : Bool) (value : ℕ) → read_as true (said true plain value) ≡ Some value
willing_from plain value = grind arith

-- what readable digits are
record Readable (digits rest : List ℕ) : Type 0 where
  some : 0 < length digits
  ends : ends_or_has_space rest ≡ true
  small : digits_value 10 digits < 2 ^ 64

-- what readable digits keep
readable_parts : (digits rest : List ℕ) → is_readable digits rest ≡ true → Readable digits rest
readable_parts digits rest is =
    let some : 0 < length digits = grind (arith, nat_tests) in
    let ends : ends_or_has_space rest ≡ true = grind (arith, nat_tests) in
    record { some = some; ends = ends; small = grind (arith, nat_tests) }

-- a body with readable digits begins with a number
abbrev begins : (body : List ℕ) (n : ℕ) → is_readable (leading_digits body) (after_digits body) ≡ true → digits_value 10 (leading_digits body) ≡ n
    → BeginsWithNumber body n
begins body n is value =
    let parts = readable_parts (leading_digits body) (after_digits body) is in
    record {
      digits = leading_digits body;
      rest = after_digits body;
      whole = sym (front_and_rest body);
      are = passing is_digit body;
      some = parts.some;
      ends = parts.ends;
      value = value;
      small = rw (← value) parts.small;
    }

-- a willing server reads a body that begins with a number
read_willingly : (body : List ℕ) (n : ℕ) → BeginsWithNumber body n → read_as true (numeral_of body) ≡ Some n
read_willingly body n b =
    ap (λ body. read_as true (numeral_of body)) b.whole
    ∙ ap (read_as true) (says b.digits b.rest b.are b.some b.ends (rw b.value b.small))
    ∙ willing_from (is_plain_numeral b.digits b.rest) (digits_value 10 b.digits)
    ∙ ap Some b.value

-- and no other
pub willing_reads : WillingReads
willing_reads body n = (
  λ e.
      let is = willing (is_readable (leading_digits body) (after_digits body)) (is_plain_numeral (leading_digits body) (after_digits body))
      (digits_value 10 (leading_digits body)) n e in
      begins body n is.0 is.1,
  read_willingly body n,
)

-- a strict server reads a plain number
read_strictly : (body : List ℕ) (n : ℕ) → IsPlainNumber body n → read_as false (numeral_of body) ≡ Some n
read_strictly body n p =
    let b = p.number in
    ap (λ body. read_as false (numeral_of body)) b.whole
    ∙ ap (read_as false) (says b.digits b.rest b.are b.some b.ends (rw b.value b.small))
    ∙ ap (λ plain. read_as false (said true plain (digits_value 10 b.digits)))
    (and_from (leb (length b.digits) 20) (are_spaces b.rest) (le-leb (length b.digits) 20 p.few) p.spaces)
    ∙ ap Some b.value

-- a body with readable and plain digits is a plain number
plain_parts : (body : List ℕ) (n : ℕ) → is_readable (leading_digits body) (after_digits body) ≡ true
    → is_plain_numeral (leading_digits body) (after_digits body) ≡ true
    → digits_value 10 (leading_digits body) ≡ n → IsPlainNumber body n
plain_parts body n is is_plain value =
    let limits = and_parts (leb (length (leading_digits body)) 20) (are_spaces (after_digits body)) is_plain in
    record { number = begins body n is value; few = leb-true (length (leading_digits body)) 20 limits.0; spaces = limits.1 }

-- and a strict server reads no other
pub strict_reads : StrictReads
strict_reads body n = (
  λ e.
      let is = strict (is_readable (leading_digits body) (after_digits body)) (is_plain_numeral (leading_digits body) (after_digits body))
      (digits_value 10 (leading_digits body)) n e in
      plain_parts body n is.0 is.1 is.2,
  read_strictly body n,
)

-- a readable number that is read has 64 bits
small_said : (is plain read : Bool) (value n : ℕ) → (is ≡ true → value < 2 ^ 64) → read_as read (said is plain value) ≡ Some n → n < 2 ^ 64
small_said is plain read value n small e = grind arith

-- a number that is read has 64 bits
pub small_numeral : (read : Bool) (body : List ℕ) (n : ℕ) → read_as read (numeral_of body) ≡ Some n → n < 2 ^ 64
small_numeral read body n e =
    small_said (is_readable (leading_digits body) (after_digits body)) (is_plain_numeral (leading_digits body) (after_digits body)) read
    (digits_value 10 (leading_digits body)) n
    (λ is. (readable_parts (leading_digits body) (after_digits body) is).small) e
