-- Words that spell something are whole, and whole words that were joined fall apart again.
use Rattle.std.proofs.Common.{◌≡◌, ℕ, ◌==◌, nat_le, Bool, true, false, not, ◌&&◌, Option, Some}
use Rattle.std.proofs.Common.{None, List, [], ◌∷◌, length, filter, refl, ap, ◌∙◌, inl, inr, arith}
use Rattle.std.proofs.lemmas.{Bool.Decides.nat_tests, List.Elements.All-weaker, List.Folds.list_all-append}
use Rattle.std.proofs.lemmas.List.Sums.{AllPass-from_list_all, list_all-from_AllPass}
use Rattle.std.proofs.{lemmas.Bool.and_parts, lemmas.Bool.and_from, lemmas.List.Splits.slice_split_none, lemmas.List.Splits.slice_split_at}
use Rattle.std.specs.List.{All, list_all, slice_split}
use Rattle.mc_protocol.specs.{Words.verb_word, Fields.fields_of}
use Rattle.mc_protocol.specs.declared.{lines.Separator.Separator, limits.TheConstants.KEY_BYTES_LIMIT}
use Rattle.mc_protocol.specs.Decimals.{SpellsNumber, is_digit, MAX_32, MAX_64}
use Rattle.mc_protocol.specs.{Lines.separates, Lines.Word, Names.is_key, Names.is_name_byte, Names.are_name_bytes}
use Rattle.mc_protocol.specs.declared.lines.Separator.TheVariants as separator
use Rattle.mc_model.specs.Types.{Verb, Fields, Request}
use Rattle.mc_words.specs.Words.{SpellsBytes, SpellsBody, SpellsFields, SpellsRequest, SpellsShown, SpellsReply, is_plain, hex_value, join_words}
use Rattle.mc_words.specs.WordLaws.{is_visible, is_whole, are_whole, is_in_line, SpellingWordsAreWhole, JoinedWordsFallApart, JoinedWordsEndNoLine}
use Rattle.mc_protocol.specs.declared.request.Verb.TheVariants as verb
use Rattle.mc_protocol.specs.declared.request.Fields.TheVariants as fields
use Rattle.mc_protocol.specs.declared.reply.Reply.TheVariants as reply

-- ---- bytes

list_all-weaker : (p q : ℕ → Bool) → ((x : ℕ) → p x ≡ true → q x ≡ true) → (xs : List ℕ) → list_all p xs ≡ true → list_all q xs ≡ true
list_all-weaker p q weaker xs all =
    list_all-from_AllPass q xs (All-weaker (λ x. p x ≡ true) (λ x. q x ≡ true) weaker xs (AllPass-from_list_all p xs all))

digit-visible : (byte : ℕ) → is_digit byte ≡ true → is_visible byte ≡ true
digit-visible byte h = grind (arith, nat_tests)

key-visible : (byte : ℕ) → is_name_byte byte ≡ true → is_visible byte ≡ true
key-visible byte h = grind (arith, nat_tests)

plain-visible : (byte : ℕ) → is_plain byte ≡ true → is_visible byte ≡ true
plain-visible byte h = (and_parts (is_visible byte) (not (byte == 37)) h).0

hex-visible : (byte h : ℕ) → hex_value byte ≡ Some h → is_visible byte ≡ true
hex-visible byte h e = grind (arith, nat_tests)

-- ---- words

some_byte : (byte : ℕ) (bytes : List ℕ) → not (length (byte ∷ bytes) == 0) ≡ true
some_byte byte bytes = grind (arith, nat_tests)

whole : (word : Word) → not (length word == 0) ≡ true → list_all is_visible word ≡ true → is_whole word ≡ true
whole word some visible = and_from (not (length word == 0)) (list_all is_visible word) some visible

number-whole : (greatest : ℕ) (word : Word) (n : ℕ) → SpellsNumber greatest word n → is_whole word ≡ true
number-whole greatest word n s = whole word s.some (list_all-weaker is_digit is_visible digit-visible word s.digits)

key-whole : (key : Word) → is_key key ≡ true → is_whole key ≡ true
key-whole key h =
    let p = and_parts (not (length key == 0) && nat_le (length key) KEY_BYTES_LIMIT) (are_name_bytes key) h in
    let q = and_parts (not (length key == 0)) (nat_le (length key) KEY_BYTES_LIMIT) p.0 in
    whole key q.0 (list_all-weaker is_name_byte is_visible key-visible key p.1)

bytes-visible : (text body : List ℕ) → SpellsBytes text body → list_all is_visible text ≡ true
bytes-visible text [] e = rw e refl
bytes-visible text (byte ∷ body) (rest, inl (e, plain), others) =
    rw e (and_from (is_visible byte) (list_all is_visible rest) (plain-visible byte plain) (bytes-visible rest body others))
bytes-visible text (byte ∷ body) (rest, inr (high, low, h, l, e, p, q, v), others) =
    let after = and_from (is_visible low) (list_all is_visible rest) (hex-visible low l q) (bytes-visible rest body others) in
    rw e (and_from (is_visible high) (is_visible low && list_all is_visible rest) (hex-visible high h p) after)

body-whole : (word : Word) (body : List ℕ) → SpellsBody word body → is_whole word ≡ true
body-whole word body (text, e, spelled, short) = rw e (whole (61 ∷ text) (some_byte 61 text) (bytes-visible text body spelled))

-- one more word
more_whole : (word : Word) (words : List Word) → is_whole word ≡ true → are_whole words ≡ true → are_whole (word ∷ words) ≡ true
more_whole word words one others = and_from (is_whole word) (are_whole words) one others

-- ---- requests

verb-whole : (verb : Verb) → is_whole (verb_word verb) ≡ true
verb-whole verb.Set = refl
verb-whole _ = refl

fields-whole : (shape : Fields) (words : List Word) (r : Request) → SpellsFields shape words r → are_whole words ≡ true
fields-whole fields.Item words r (flags, body, e, f, b, n) =
    rw e (more_whole flags (body ∷ []) (number-whole MAX_32 flags r.flags f) (more_whole body [] (body-whole body r.body b) refl))
fields-whole fields.Swap words r (flags, body, number, e, f, b, n) =
    let behind = more_whole body (number ∷ []) (body-whole body r.body b) (more_whole number [] (number-whole MAX_64 number r.number n) refl) in
    rw e (more_whole flags (body ∷ number ∷ []) (number-whole MAX_32 flags r.flags f) behind)
fields-whole fields.Amount words r (number, e, f, b, n) = rw e (more_whole number [] (number-whole MAX_64 number r.number n) refl)
fields-whole _ words r s = rw s.0 refl

pub request-whole : SpellingWordsAreWhole SpellsRequest
request-whole words r (others, e, key, spelled) =
    let behind = more_whole r.key others (key-whole r.key key) (fields-whole (fields_of r.verb) others r spelled) in
    rw e (more_whole (verb_word r.verb) (r.key ∷ others) (verb-whole r.verb) behind)

-- ---- replies

shown-whole : (words : List Word) (cas : Option ℕ) → SpellsShown words cas → are_whole words ≡ true
shown-whole words None e = rw e refl
shown-whole words (Some n) (word, e, number) = rw e (more_whole word [] (number-whole MAX_64 word n number) refl)

pub reply-whole : SpellingWordsAreWhole SpellsReply
reply-whole words (reply.Hit flags body cas) (f, b, shown, e, p, q, s) =
    rw e (more_whole f (b ∷ shown) (number-whole MAX_32 f flags p) (more_whole b shown (body-whole b body q) (shown-whole shown cas s)))
reply-whole words (reply.Number n) (word, e, number) = rw e (more_whole word [] (number-whole MAX_64 word n number) refl)
reply-whole words _ e = rw e refl

-- ---- joined

-- no visible byte separates words
visible-apart : (by : Separator) (byte : ℕ) → is_visible byte ≡ true → separates by byte ≡ false
visible-apart separator.Space byte h = grind (arith, nat_tests)
visible-apart separator.SpaceOrTab byte h = grind (arith, nat_tests)

space-separates : (by : Separator) → separates by 32 ≡ true
space-separates separator.Space = refl
space-separates separator.SpaceOrTab = refl

none-separates : (by : Separator) (word : Word) → list_all is_visible word ≡ true → All (λ byte. separates by byte ≡ false) word
none-separates by word visible =
    All-weaker (λ byte. is_visible byte ≡ true) (λ byte. separates by byte ≡ false) (visible-apart by) word (AllPass-from_list_all is_visible word visible)

-- the pieces between the spaces are the words
splits : (by : Separator) (word : Word) (words : List Word) → are_whole (word ∷ words) ≡ true
    → slice_split (separates by) (join_words (word ∷ words)) ≡ word ∷ words
splits by word [] all =
    let p = and_parts (is_whole word) true all in
    let q = and_parts (not (length word == 0)) (list_all is_visible word) p.0 in
    slice_split_none (separates by) word (none-separates by word q.1)
splits by word (next ∷ words) all =
    let p = and_parts (is_whole word) (are_whole (next ∷ words)) all in
    let q = and_parts (not (length word == 0)) (list_all is_visible word) p.0 in
    slice_split_at (separates by) word 32 (join_words (next ∷ words)) (none-separates by word q.1) (space-separates by)
    ∙ ap (λ pieces. word ∷ pieces) (splits by next words p.1)

-- no word is left out
keeps : (words : List Word) → are_whole words ≡ true → filter (λ word. not (length word == 0)) words ≡ words
keeps [] all = refl
keeps (word ∷ words) all =
    let p = and_parts (is_whole word) (are_whole words) all in
    let q = and_parts (not (length word == 0)) (list_all is_visible word) p.0 in
    rw q.0 (ap (λ others. word ∷ others) (keeps words p.1))

pub falls_apart : JoinedWordsFallApart
falls_apart by [] all = refl
falls_apart by (word ∷ words) all = ap (filter (λ w. not (length w == 0))) (splits by word words all) ∙ keeps (word ∷ words) all

visible-in_line : (byte : ℕ) → is_visible byte ≡ true → is_in_line byte ≡ true
visible-in_line byte h = grind (arith, nat_tests)

word-in_line : (word : Word) → is_whole word ≡ true → list_all is_in_line word ≡ true
word-in_line word h = list_all-weaker is_visible is_in_line visible-in_line word (and_parts (not (length word == 0)) (list_all is_visible word) h).1

pub ends_no_line : JoinedWordsEndNoLine
ends_no_line [] all = refl
ends_no_line (word ∷ []) all = word-in_line word (and_parts (is_whole word) true all).0
ends_no_line (word ∷ next ∷ words) all =
    let p = and_parts (is_whole word) (are_whole (next ∷ words)) all in
    rw (list_all-append is_in_line word (32 ∷ join_words (next ∷ words)))
    (and_from (list_all is_in_line word) (list_all is_in_line (join_words (next ∷ words))) (word-in_line word p.0) (ends_no_line (next ∷ words) p.1))
