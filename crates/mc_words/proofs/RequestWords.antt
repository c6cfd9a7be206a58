-- Words are read as a request exactly where they spell it.
use Rattle.std.proofs.Common.{◌≡◌, ◌≢◌, ℕ, ◌==◌, Bool, true, false, Option, Some, None, is_some, Ok, List, [], ◌∷◌, codes, refl, sym, ap, ◌∙◌, subst}
use Rattle.std.proofs.lemmas.Bool.{false≢true}
use Rattle.mc_protocol.specs.{Words.verb_word, Words.verb_of, Decimals.are_digits, Decimals.MAX_32, Decimals.MAX_64}
use Rattle.mc_protocol.specs.{Fields.fields_of, Names.is_key}
use Rattle.mc_words.specs.Reading.{◌>>=◌, at_end, last_number_in, flags_and_body_in, fields_in, request_of, after_verb, request_in}
use Rattle.mc_model.specs.{Types.Verb, Types.Fields, Types.Request, Types.Word}
use Rattle.mc_words.specs.{Words.SpellsBody, Words.SpellsFields, Words.SpellsRequest}
use Rattle.mc_protocol.specs.declared.request.Fields.TheVariants as fields
use Rattle.mc_protocol.proofs.OfWords.{verb_of-word, word-of_verb}
use Rattle.mc_words.specs.declared.words_fault.WordsKind.TheVariants as kind
use Rattle.mc_words.proofs.FieldWords.{number-read, at_end-ok, last_number-spelled, flags_and_body-spelled}
use Rattle.mc_words.proofs.{Readings.then-ok, Readings.steps-ok, Readings.ok-same, BodyWords.body-read}

-- ---- what comes after the key, by its shape

fields-spelled : (shape : Fields) (verb : Verb) (key : List ℕ) (words : List Word) (x : ℕ × List ℕ × ℕ) → fields_in shape words ≡ Ok x
    → SpellsFields shape words (request_of verb key x)
fields-spelled fields.Item verb key words x h =
    let p = steps-ok (flags_and_body_in words) (λ y. at_end (y.0, y.1, 0) y.2) x h in
    let i = flags_and_body-spelled words p.0 p.1 in
    let e = at_end-ok (p.0.0, p.0.1, 0) p.0.2 x p.2 in
    subst (λ x. SpellsFields fields.Item words (request_of verb key x)) e.1
    (i.flags, i.body, i.split ∙ ap (λ o. i.flags ∷ i.body ∷ o) e.0, i.number, i.bytes, refl)
fields-spelled fields.Swap verb key words x h =
    let p = steps-ok (flags_and_body_in words) (λ y. last_number_in y.2 >>= λ n. Ok (y.0, y.1, n)) x h in
    let i = flags_and_body-spelled words p.0 p.1 in
    let q = steps-ok (last_number_in p.0.2) (λ n. Ok (p.0.0, p.0.1, n)) x p.2 in
    let n = last_number-spelled p.0.2 q.0 q.1 in
    subst (λ x. SpellsFields fields.Swap words (request_of verb key x)) (ok-same (p.0.0, p.0.1, q.0) x q.2)
    (i.flags, i.body, n.0, i.split ∙ ap (λ o. i.flags ∷ i.body ∷ o) n.1, i.number, i.bytes, n.2)
fields-spelled fields.Amount verb key words x h =
    let q = steps-ok (last_number_in words) (λ n. Ok (0, [], n)) x h in
    let n = last_number-spelled words q.0 q.1 in
    subst (λ x. SpellsFields fields.Amount words (request_of verb key x)) (ok-same (0, [], q.0) x q.2) (n.0, n.1, refl, refl, n.2)
fields-spelled _ verb key words x h =
    let e = at_end-ok _ words x h in
    subst (λ x. SpellsFields fields.KeyAlone words (request_of verb key x)) e.1 (e.0, refl, refl, refl)

fields-read : (shape : Fields) (r : Request) (words : List Word) → SpellsFields shape words r → fields_in shape words ≡ Ok (r.flags, r.body, r.number)
fields-read fields.Item r words (flags, body, e, f, b, n) = rw (e, number-read MAX_32 flags r.flags f, body-read body r.body b, n) refl
fields-read fields.Swap r words (flags, body, number, e, f, b, n) =
    rw (e, number-read MAX_32 flags r.flags f, body-read body r.body b, number-read MAX_64 number r.number n) refl
fields-read fields.Amount r words (number, e, f, b, n) = rw (e, number-read MAX_64 number r.number n, f, b) refl
fields-read _ r words s = rw (s.0, s.1, s.2, s.3) refl

-- ---- requests

after-spelled : (word : Word) (verb : Option Verb) (words : List Word) (r : Request) → verb_of word ≡ verb → after_verb verb words ≡ Ok r
    → SpellsRequest (word ∷ words) r
after-spelled word None words r e h = absurd (cc)
after-spelled word (Some verb) [] r e h = absurd (cc)
after-spelled word (Some verb) (key ∷ others) r e h =
    let p = then-ok (is_key key) (fields_in (fields_of verb) others >>= λ x. Ok (request_of verb key x)) kind.Form r h in
    let q = steps-ok (fields_in (fields_of verb) others) (λ x. Ok (request_of verb key x)) r p.1 in
    let w = word-of_verb word verb e in
    subst (SpellsRequest (word ∷ key ∷ others)) (ok-same (request_of verb key q.0) r q.2)
    (others, rw w refl, p.0, fields-spelled (fields_of verb) verb key others q.0 q.1)

pub request-spelled : (words : List Word) (r : Request) → request_in words ≡ Ok r → SpellsRequest words r
unfolding request_in
request-spelled [] r h = absurd (cc)
request-spelled (word ∷ words) r h = after-spelled word (verb_of word) words r refl h

pub request-read : (words : List Word) (r : Request) → SpellsRequest words r → request_in words ≡ Ok r
unfolding request_in
request-read words r (others, e, key, spelled) = rw (e, verb_of-word r.verb, key, fields-read (fields_of r.verb) r others spelled) refl

-- words spell one request
pub one_request : (words : List Word) (r s : Request) → SpellsRequest words r → SpellsRequest words s → r ≡ s
one_request words r s a b = ok-same r s (sym (request-read words r a) ∙ request-read words s b)

-- ---- no word of a request is `->`

abbrev pub arrow : Word
arrow = codes "->"

abbrev pub HasNoArrow : List Word → Type 0
HasNoArrow [] = Unit {0}
HasNoArrow (word ∷ words) = (arrow ≢ word) × HasNoArrow words

-- a word that passes a test which the arrow fails
apart : (test : Word → Bool) (word : Word) → test arrow ≡ false → test word ≡ true → arrow ≢ word
apart test word fails passes e = false≢true (sym fails ∙ ap test e ∙ passes)

verb-apart : (verb : Verb) → arrow ≢ verb_word verb
unfolding verb_of
verb-apart verb = apart (λ w. is_some (verb_of w)) (verb_word verb) refl (ap is_some (verb_of-word verb))

begins_body : Word → Bool
begins_body [] = false
begins_body (byte ∷ bytes) = byte == 61

body-apart : (word : Word) (body : List ℕ) → SpellsBody word body → arrow ≢ word
unfolding begins_body
body-apart word body (text, e, spelled, small) = apart begins_body word refl (ap begins_body e)

fields-apart : (shape : Fields) (words : List Word) (r : Request) → SpellsFields shape words r → HasNoArrow words
fields-apart fields.Item words r (flags, body, e, f, b, n) =
    subst HasNoArrow (sym e) (apart are_digits flags refl f.digits, (body-apart body r.body b, tt))
fields-apart fields.Swap words r (flags, body, number, e, f, b, n) =
    subst HasNoArrow (sym e) (apart are_digits flags refl f.digits, (body-apart body r.body b, (apart are_digits number refl n.digits, tt)))
fields-apart fields.Amount words r (number, e, f, b, n) = subst HasNoArrow (sym e) (apart are_digits number refl n.digits, tt)
fields-apart _ words r s = subst HasNoArrow (sym s.0) tt

pub no_arrow_in_request : (words : List Word) (r : Request) → SpellsRequest words r → HasNoArrow words
no_arrow_in_request words r (others, e, key, spelled) =
    subst HasNoArrow (sym e) (verb-apart r.verb, (apart is_key r.key refl key, fields-apart (fields_of r.verb) others r spelled))
