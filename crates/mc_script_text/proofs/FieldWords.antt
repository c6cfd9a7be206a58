-- Numbers, bodies and the fields after a key are read exactly where words spell them.
use Rattle.std.proofs.Common.{◌≡◌, ℕ, ◌==◌, true, false, Some, Result, Ok, Err, List, [], ◌∷◌, ◌++◌, drop, refl, sym, ap, subst, ◌∙◌, arith}
use Rattle.std.proofs.{lemmas.Bool.eqb-true, lemmas.Bool.and_parts, lemmas.Bool.Decides.nat_tests}
use Rattle.std.specs.Result.{result_ok}
use Rattle.mc_script_text.specs.Values.{Fields, Verb, Word, Words, Parts, Argument, Template}
use Rattle.mc_script_text.specs.SectionText.{SpellsAmount, SpellsUnique, SpellsFields}
use Rattle.mc_script_text.specs.Reading.{number_in, body_in, variable_named, unique_in, amount_in, nothing, fields_in, field_count, template_of}
use Rattle.mc_script_text.specs.Values.fields
use Rattle.mc_script_text.specs.Values.argument
use Rattle.mc_protocol.specs.Decimals.{SpellsNumber, decimal_in, are_digits, is_digit, MAX_32, MAX_64}
use Rattle.mc_protocol.specs.{Names.index_of, declared.decimal.DecimalFault.DecimalFault}
use Rattle.mc_protocol.proofs.Decimals.{decimal-spelled, decimal-read}
use Rattle.mc_script.specs.{Script.Names, ScriptWords.is_body, ScriptWords.body_word}
use Rattle.mc_script_text.proofs.Outcomes.{then-some, some-same, only-then, cond-cases}

-- ---- numbers

-- a reading that gave a number
read-number : (r : Result ℕ DecimalFault) (n : ℕ) → result_ok r ≡ Some n → r ≡ Ok n
read-number (Ok m) n h = ap Ok (some-same m n h)
read-number (Err e) n h = absurd (cc)

pub number-spelled : (greatest : ℕ) (word : Word) (n : ℕ) → number_in greatest word ≡ Some n → SpellsNumber greatest word n
number-spelled greatest word n h = decimal-spelled greatest word n (read-number (decimal_in greatest word) n h)

pub number-read : (greatest : ℕ) (word : Word) (n : ℕ) → SpellsNumber greatest word n → number_in greatest word ≡ Some n
number-read greatest word n s = ap result_ok (decimal-read greatest word n s)

-- ---- bodies

pub body-spelled : (word : Word) (body : List ℕ) → body_in word ≡ Some body → (word ≡ body_word body) × (is_body body ≡ true)
body-spelled [] body h = absurd (cc)
body-spelled (first ∷ rest) body h =
    let p = only-then (first == 61) _ body h in
    let q = only-then (is_body rest) (Some rest) body p.1 in
    let e = some-same rest body q.1 in
    let P : List ℕ → Type 0 = λ bytes. is_body bytes ≡ true in
    (ap (λ byte. byte ∷ rest) (eqb-true first 61 p.0) ∙ ap (λ bytes. 61 ∷ bytes) e, subst P e q.0)

pub body-read : (word : Word) (body : List ℕ) → word ≡ body_word body → is_body body ≡ true → body_in word ≡ Some body
body-read word body e b = rw (e, b) refl

-- ---- variables and amounts

pub unique-spelled : (names : Names) (word : Word) (a : Argument) → unique_in names word ≡ Some a → SpellsUnique names word a
unique-spelled names [] a h = absurd (cc)
unique-spelled names (first ∷ name) a h =
    let p = only-then (first == 36) (variable_named names name) a h in
    let q = then-some (index_of names.vars name) _ _ p.1 in
    let P : Argument → Type 0 = SpellsUnique names (first ∷ name) in
    subst P (some-same (argument.Variable q.0) a q.2) (name, ap (λ byte. byte ∷ name) (eqb-true first 36 p.0), q.1)

pub unique-read : (names : Names) (word : Word) (a : Argument) → SpellsUnique names word a → unique_in names word ≡ Some a
unique-read names word (argument.Variable v) (name, e, i) = rw (e, i) refl
unique-read names word a s = absurd s

pub amount-spelled : (names : Names) (word : Word) (a : Argument) → amount_in names word ≡ Some a → SpellsAmount names word a
amount-spelled names [] a h = absurd (cc)
amount-spelled names (first ∷ name) a h =
    let P : Argument → Type 0 = SpellsAmount names (first ∷ name) in
    cond-cases (first == 36) (variable_named names name) _ a (SpellsAmount names (first ∷ name) a) h
    (λ dollar g.
    let q = then-some (index_of names.vars name) _ _ g in
    subst P (some-same (argument.Variable q.0) a q.2) (name, ap (λ byte. byte ∷ name) (eqb-true first 36 dollar), q.1))
    (λ other g.
    let q = then-some (number_in MAX_64 (first ∷ name)) _ _ g in
    subst P (some-same (argument.Number q.0) a q.2) (number-spelled MAX_64 (first ∷ name) q.0 q.1))

no-dollar : (byte : ℕ) → is_digit byte ≡ true → (byte == 36) ≡ false
no-dollar byte h = grind (arith, nat_tests)

plain-read : (names : Names) (word : Word) (n : ℕ) → SpellsNumber MAX_64 word n → amount_in names word ≡ Some (argument.Number n)
plain-read names [] n s = absurd (let some = s.some in cc)
plain-read names (first ∷ rest) n s =
    let p = and_parts (is_digit first) (are_digits rest) s.digits in
    rw (no-dollar first p.0, number-read MAX_64 (first ∷ rest) n s) refl

pub amount-read : (names : Names) (word : Word) (a : Argument) → SpellsAmount names word a → amount_in names word ≡ Some a
amount-read names word argument.Nothing s = absurd s
amount-read names word (argument.Number n) s = plain-read names word n s
amount-read names word (argument.Variable v) (name, e, i) = rw (e, i) refl

-- ---- the fields after the key

-- the words are what the parts spell, and others
pub record SpelledParts (names : Names) (shape : Fields) (words : Words) (v : Verb) (key : ℕ) (parts : Parts) : Type 0 where
  pub front : Words
  pub words_are : words ≡ front ++ drop (field_count shape) words
  pub spelled : SpellsFields names shape front (template_of v key parts)

pub fields-spelled : (names : Names) (shape : Fields) (words : Words) (v : Verb) (key : ℕ) (parts : Parts) → fields_in names shape words ≡ Some parts
    → SpelledParts names shape words v key parts
unfolding fields_in
fields-spelled names fields.Item (flags ∷ body ∷ others) v key parts h =
    let made : ℕ → List ℕ → Parts = λ f b. record { flags = f; argument = argument.Nothing; body = b } in
    let p = then-some (number_in MAX_32 flags) _ _ h in
    let q = then-some (body_in body) _ _ p.2 in
    let b = body-spelled body q.0 q.1 in
    record {
      front = flags ∷ body ∷ [];
      words_are = refl;
      spelled = subst (λ x. SpellsFields names fields.Item (flags ∷ body ∷ []) (template_of v key x)) (some-same (made p.0 q.0) parts q.2)
          (flags, ap (λ w. flags ∷ w ∷ []) b.0, number-spelled MAX_32 flags p.0 p.1, refl, b.1);
    }
fields-spelled names fields.Swap (flags ∷ body ∷ unique ∷ others) v key parts h =
    let made : ℕ → List ℕ → Argument → Parts = λ f b u. record { flags = f; argument = u; body = b } in
    let p = then-some (number_in MAX_32 flags) _ _ h in
    let q = then-some (body_in body) _ _ p.2 in
    let r = then-some (unique_in names unique) _ _ q.2 in
    let b = body-spelled body q.0 q.1 in
    record {
      front = flags ∷ body ∷ unique ∷ [];
      words_are = refl;
      spelled = subst (λ x. SpellsFields names fields.Swap (flags ∷ body ∷ unique ∷ []) (template_of v key x)) (some-same (made p.0 q.0 r.0) parts r.2)
          (flags, unique, ap (λ w. flags ∷ w ∷ unique ∷ []) b.0, number-spelled MAX_32 flags p.0 p.1, unique-spelled names unique r.0 r.1, b.1);
    }
fields-spelled names fields.Amount (amount ∷ others) v key parts h =
    let made : Argument → Parts = λ a. record { flags = 0; argument = a; body = [] } in
    let p = then-some (amount_in names amount) _ _ h in
    record {
      front = amount ∷ [];
      words_are = refl;
      spelled = subst (λ x. SpellsFields names fields.Amount (amount ∷ []) (template_of v key x)) (some-same (made p.0) parts p.2)
          (amount, refl, refl, amount-spelled names amount p.0 p.1, refl);
    }
fields-spelled names fields.Item words v key parts h = absurd (cc)
fields-spelled names fields.Swap words v key parts h = absurd (cc)
fields-spelled names fields.Amount words v key parts h = absurd (cc)
fields-spelled names shape words v key parts h =
    let e = some-same nothing parts h in
    record { front = []; words_are = refl; spelled = subst (λ p. SpellsFields names shape [] (template_of v key p)) e (refl, refl, refl, refl) }

-- what a template has of them
abbrev pub parts_of : Template → Parts
parts_of t = record { flags = t.flags; argument = t.argument; body = t.body }

same-parts : (f g : ℕ) (a b : Argument) (x y : List ℕ) → f ≡ g → a ≡ b → x ≡ y
    → ◌≡◌ {A = Parts} (record { flags = f; argument = a; body = x }) (record { flags = g; argument = b; body = y })
same-parts f g a b x y d e h = rw (d, e, h) refl

pub fields-read : (names : Names) (shape : Fields) (front others : Words) (t : Template) → SpellsFields names shape front t
    → (fields_in names shape (front ++ others) ≡ Some (parts_of t)) × (drop (field_count shape) (front ++ others) ≡ others)
unfolding fields_in
fields-read names fields.Item front others t (flags, e, f, a, b) =
    rw (e, number-read MAX_32 flags t.flags f, b) (ap Some (same-parts t.flags t.flags argument.Nothing t.argument t.body t.body refl (sym a) refl), refl)
fields-read names fields.Swap front others t (flags, unique, e, f, u, b) =
    rw (e, number-read MAX_32 flags t.flags f, b, unique-read names unique t.argument u) (refl, refl)
fields-read names fields.Amount front others t (amount, e, f, a, b) =
    rw (e, amount-read names amount t.argument a) (ap Some (same-parts 0 t.flags t.argument t.argument [] t.body (sym f) refl (sym b)), refl)
fields-read names fields.KeyAlone front others t (e, f, a, b) =
    rw e (ap Some (same-parts 0 t.flags argument.Nothing t.argument [] t.body (sym f) (sym a) (sym b)), refl)
fields-read names fields.Expiry front others t (e, f, a, b) =
    rw e (ap Some (same-parts 0 t.flags argument.Nothing t.argument [] t.body (sym f) (sym a) (sym b)), refl)
