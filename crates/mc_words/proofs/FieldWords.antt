-- The words that requests and replies share are read exactly where they spell a number, or flags and a body.
use Rattle.std.proofs.Common.{◌≡◌, ℕ, Result, Ok, Err, List, [], ◌∷◌, refl, ap, subst}
use Rattle.mc_protocol.specs.Decimals.{SpellsNumber, MAX_32, MAX_64, decimal_in}
use Rattle.mc_protocol.specs.{Lines.Word, declared.decimal.DecimalFault.DecimalFault}
use Rattle.mc_protocol.specs.declared.decimal.DecimalFault.TheVariants as decimal
use Rattle.mc_protocol.proofs.Decimals.{decimal-spelled, decimal-read}
use Rattle.mc_words.specs.declared.words_fault.WordsKind.TheVariants as kind
use Rattle.mc_words.specs.Words.{SpellsBody}
use Rattle.mc_words.specs.Reading.{◌>>=◌, at_end, number_or_fault, number_in, body_in, last_number_in, flags_and_body_in}
use Rattle.mc_words.proofs.{Readings.steps-ok, Readings.ok-same, BodyWords.body-spelled}

-- a reading that gave a number
read-number : (r : Result ℕ DecimalFault) (n : ℕ) → number_or_fault r ≡ Ok n → r ≡ Ok n
read-number (Ok m) n h = ap Ok (ok-same m n h)
read-number (Err decimal.NotDigits) n h = absurd (cc)
read-number (Err decimal.TooLarge) n h = absurd (cc)

pub number-spelled : (greatest : ℕ) (word : Word) (n : ℕ) → number_in greatest word ≡ Ok n → SpellsNumber greatest word n
number-spelled greatest word n h = decimal-spelled greatest word n (read-number (decimal_in greatest word) n h)

pub number-read : (greatest : ℕ) (word : Word) (n : ℕ) → SpellsNumber greatest word n → number_in greatest word ≡ Ok n
number-read greatest word n s = ap number_or_fault (decimal-read greatest word n s)

-- what was read is the value, and no word follows
pub at_end-ok : {A : Type 0} (x : A) (words : List Word) (y : A) → at_end x words ≡ Ok y → (words ≡ []) × (x ≡ y)
at_end-ok x [] y h = (refl, ok-same x y h)
at_end-ok x (word ∷ words) y h = absurd (cc)

pub last_number-spelled : (words : List Word) (n : ℕ) → last_number_in words ≡ Ok n → (word : Word) × (words ≡ word ∷ []) × SpellsNumber MAX_64 word n
last_number-spelled [] n h = absurd (cc)
last_number-spelled (word ∷ others) n h =
    let p = steps-ok (number_in MAX_64 word) (λ m. at_end m others) n h in
    let e = at_end-ok p.0 others n p.2 in
    (word, ap (λ o. word ∷ o) e.0, number-spelled MAX_64 word n (rw (← e.1) p.1))

-- the words are those of the flags and of the body, and those that follow
pub record FlagsAndBody (words : List Word) (read : ℕ × List ℕ × List Word) : Type 0 where
  pub flags : Word
  pub body : Word
  pub split : words ≡ flags ∷ body ∷ read.2
  pub number : SpellsNumber MAX_32 flags read.0
  pub bytes : SpellsBody body read.1

pub flags_and_body-spelled : (words : List Word) (read : ℕ × List ℕ × List Word) → flags_and_body_in words ≡ Ok read → FlagsAndBody words read
flags_and_body-spelled [] read h = absurd (cc)
flags_and_body-spelled (flags ∷ []) read h = absurd (let p = steps-ok (number_in MAX_32 flags) (λ f. Err kind.Form) read h in cc)
flags_and_body-spelled (flags ∷ body ∷ others) read h =
    let p = steps-ok (number_in MAX_32 flags) (λ f. body_in body >>= λ b. Ok (f, b, others)) read h in
    let q = steps-ok (body_in body) (λ b. Ok (p.0, b, others)) read p.2 in
    let e = ok-same (p.0, q.0, others) read q.2 in
    subst (FlagsAndBody (flags ∷ body ∷ others)) e (record {
      flags = flags;
      body = body;
      split = refl;
      number = number-spelled MAX_32 flags p.0 p.1;
      bytes = body-spelled body q.0 q.1;
    })
