-- The lines of requests that are rendered, and their words.
use Rattle.std.proofs.Common.{◌≡◌, ℕ, ◌+◌, ◌<◌, ◌≤◌, ◌==◌, nat_le, true, false, List, [], ◌∷◌, ◌++◌, length, codes}
use Rattle.std.proofs.Common.{decimal, refl, sym, ap, ◌∙◌, subst, arith, append_assoc, append-nil, length-append}
use Rattle.std.proofs.{lemmas.Bool.and_parts, lemmas.Bool.eqb-true, lemmas.Bool.leb-true, lemmas.Fmt.decimal_nonempty, lemmas.List.Folds.concat-append}
use Rattle.std.specs.List.{concat, filter, list_all, list_any}
use Rattle.mc_protocol.specs.{Decimals.MAX_64, Lines.Word, Lines.Words, Lines.words_of, Texts.line_end, Texts.after_key, Texts.text_as}
use Rattle.mc_protocol.specs.{declared.lines.Separator.TheVariants.Space, declared.request.Fields.Fields, declared.request.Request.Request}
use Rattle.mc_protocol.specs.declared.request.Fields.TheVariants as fields
use Rattle.mc_reader.specs.declared.limits.TheConstants.{REQUEST_KEY_LIMIT}
use Rattle.mc_reader.specs.{AskLaws.IsSendable, AskWords.is_key_byte, Lines.CR, Lines.LF, Lines.has_end, Lines.IsLine, Words.is_space}
use Rattle.mc_reader.proofs.WrittenHits.{below, short, next, last, no_space, no_end}
use Rattle.mc_reader.proofs.{AskWordCuts.is_some_word, AskWordCuts.positive, AskWordCuts.kept, Blocks.not_true, Gathers.neither_has, Gathers.none_joined}

-- ---- the pieces of a text

-- what stands on the line after the key, and after the line
abbrev pub on_line : Fields → Request → List (List ℕ)
on_line fields.KeyAlone r = []
on_line fields.Expiry r = codes " 0" ∷ []
on_line fields.Item r = codes " " ∷ decimal r.flags ∷ codes " 0 " ∷ decimal (length r.body) ∷ []
on_line fields.Swap r =
    codes " " ∷ decimal r.flags ∷ codes " 0 " ∷ decimal (length r.body) ∷ codes " " ∷ decimal r.number ∷ []
on_line fields.Amount r = codes " " ∷ decimal r.number ∷ []

abbrev pub after_line : Fields → Request → List (List ℕ)
after_line fields.KeyAlone r = []
after_line fields.Expiry r = []
after_line fields.Item r = r.body ∷ codes "\r\n" ∷ []
after_line fields.Swap r = r.body ∷ codes "\r\n" ∷ []
after_line fields.Amount r = []

pieces_split : (f : Fields) (r : Request) → after_key f r ≡ on_line f r ++ (line_end ∷ after_line f r)
pieces_split fields.KeyAlone r = refl
pieces_split fields.Expiry r = refl
pieces_split fields.Item r = refl
pieces_split fields.Swap r = refl
pieces_split fields.Amount r = refl

abbrev pub line_pieces : Word → Fields → Request → List (List ℕ)
line_pieces word f r = word ∷ codes " " ∷ r.key ∷ on_line f r

-- the line without its end
abbrev pub line_text : Word → Fields → Request → List ℕ
line_text word f r = concat (line_pieces word f r)

pub text_split : (word : Word) (f : Fields) (r : Request) → text_as word f r ≡ (line_text word f r ++ CR ∷ []) ++ LF ∷ concat (after_line f r)
text_split word f r =
    ap (λ u. concat (word ∷ codes " " ∷ r.key ∷ u)) (pieces_split f r)
    ∙ concat-append (line_pieces word f r) (line_end ∷ after_line f r)
    ∙ sym (append_assoc (line_text word f r) (CR ∷ []) (LF ∷ concat (after_line f r)))

-- ---- words

-- a word that stands on a line
pub record IsOneWord (word : Word) : Type 0 where
  pub some : 0 < length word
  pub one_word : list_any is_space word ≡ false
  pub one_line : has_end word ≡ false

key_isnt : (byte other : ℕ) → is_key_byte byte ≡ true → is_key_byte other ≡ false → (byte == other) ≡ false
key_isnt byte other p q =
    not_true (byte == other)
    (λ h. let e : is_key_byte other ≡ true = subst (λ b. is_key_byte b ≡ true) (eqb-true byte other h) p in absurd (cc))

-- no byte of a key is another than those of keys
none_of_key : (other : ℕ) → is_key_byte other ≡ false → (word : Word) → list_all is_key_byte word ≡ true
    → list_any (λ b. b == other) word ≡ false
none_of_key other q [] h = refl
none_of_key other q (b ∷ word) h =
    let p = and_parts (is_key_byte b) (list_all is_key_byte word) h in
    neither_has (b == other) (list_any (λ b. b == other) word) (key_isnt b other p.0 q) (none_of_key other q word p.1)

key_word : (r : Request) → IsSendable r → IsOneWord r.key
key_word r s =
    let p = and_parts (nat_le (length r.key) REQUEST_KEY_LIMIT) (list_all is_key_byte r.key) s.key in
    record { some = s.some; one_word = none_of_key 32 refl r.key p.1; one_line = none_of_key 10 refl r.key p.1 }

key_short : (r : Request) → IsSendable r → length r.key ≤ REQUEST_KEY_LIMIT
key_short r s =
    leb-true (length r.key) REQUEST_KEY_LIMIT (and_parts (nat_le (length r.key) REQUEST_KEY_LIMIT) (list_all is_key_byte r.key) s.key).0

decimal_word : (n : ℕ) → n ≤ MAX_64 → IsOneWord (decimal n)
decimal_word n small =
    record { some = decimal_nonempty n (below n small); one_word = no_space n small; one_line = no_end n small }

next_word : (word text : List ℕ) → IsOneWord word → words_of Space (word ++ 32 ∷ text) ≡ word ∷ words_of Space text
next_word word text w =
    ap (filter is_some_word) (next word text w.one_word)
    ∙ kept (is_some_word word) word (words_of Space text) (positive word w.some)

last_word : (word : List ℕ) → IsOneWord word → words_of Space (word ++ []) ≡ word ∷ []
last_word word w =
    ap (words_of Space) (append-nil word) ∙ ap (filter is_some_word) (last word w.one_word)
    ∙ kept (is_some_word word) word [] (positive word w.some)

abbrev pub zero : Word
zero = codes "0"

-- the words after the command's
abbrev pub words_after_word : Fields → Request → Words
words_after_word fields.KeyAlone r = r.key ∷ []
words_after_word fields.Expiry r = r.key ∷ zero ∷ []
words_after_word fields.Item r = r.key ∷ decimal r.flags ∷ zero ∷ decimal (length r.body) ∷ []
words_after_word fields.Swap r = r.key ∷ decimal r.flags ∷ zero ∷ decimal (length r.body) ∷ decimal r.number ∷ []
words_after_word fields.Amount r = r.key ∷ decimal r.number ∷ []

-- from the flags on
item_words : (r : Request) (text : List ℕ) (words : Words) → IsSendable r → words_of Space text ≡ words
    → words_of Space (r.key ++ 32 ∷ (decimal r.flags ++ 32 ∷ 48 ∷ 32 ∷ text)) ≡ r.key ∷ decimal r.flags ∷ zero ∷ words
item_words r text words s e =
    let narrow = s.flags in
    let small : r.flags ≤ MAX_64 = omega arith in
    next_word r.key (decimal r.flags ++ 32 ∷ 48 ∷ 32 ∷ text) (key_word r s)
    ∙ ap (λ u. r.key ∷ u) (next_word (decimal r.flags) (48 ∷ 32 ∷ text) (decimal_word r.flags small)
    ∙ ap (λ u. decimal r.flags ∷ u) (next_word zero text (record { some = omega arith; one_word = refl; one_line = refl })
    ∙ ap (λ u. zero ∷ u) e))

fields_written : (f : Fields) (r : Request) → IsSendable r → words_of Space (concat (r.key ∷ on_line f r)) ≡ words_after_word f r
fields_written fields.KeyAlone r s = last_word r.key (key_word r s)
fields_written fields.Expiry r s = next_word r.key (48 ∷ []) (key_word r s)
fields_written fields.Item r s =
    let few = s.body in
    let small : length r.body ≤ MAX_64 = omega arith in
    item_words r (decimal (length r.body) ++ []) (decimal (length r.body) ∷ []) s
    (last_word (decimal (length r.body)) (decimal_word (length r.body) small))
fields_written fields.Swap r s =
    let few = s.body in
    let small : length r.body ≤ MAX_64 = omega arith in
    item_words r (decimal (length r.body) ++ 32 ∷ (decimal r.number ++ [])) (decimal (length r.body) ∷ decimal r.number ∷ []) s
    (next_word (decimal (length r.body)) (decimal r.number ++ []) (decimal_word (length r.body) small)
    ∙ ap (λ u. decimal (length r.body) ∷ u) (last_word (decimal r.number) (decimal_word r.number s.number)))
fields_written fields.Amount r s =
    next_word r.key (decimal r.number ++ []) (key_word r s)
    ∙ ap (λ u. r.key ∷ u) (last_word (decimal r.number) (decimal_word r.number s.number))

pub words_written : (word : Word) (f : Fields) (r : Request) → IsOneWord word → IsSendable r
    → words_of Space (line_text word f r) ≡ word ∷ words_after_word f r
words_written word f r w s =
    next_word word (concat (r.key ∷ on_line f r)) w ∙ ap (λ u. word ∷ u) (fields_written f r s)

-- ---- lines

data AllOnLine : List (List ℕ) → Type 0 where
  none : AllOnLine []
  more : (piece : List ℕ) (pieces : List (List ℕ)) → has_end piece ≡ false → AllOnLine pieces → AllOnLine (piece ∷ pieces)

all_joined : (pieces : List (List ℕ)) → AllOnLine pieces → has_end (concat pieces) ≡ false
all_joined pieces none = refl
all_joined pieces (more piece others h hs) = none_joined piece (concat others) h (all_joined others hs)

total : List (List ℕ) → ℕ
total [] = 0
total (piece ∷ pieces) = length piece + total pieces

total_is : (pieces : List (List ℕ)) → length (concat pieces) ≡ total pieces
unfolding total
total_is [] = refl
total_is (piece ∷ pieces) = length-append piece (concat pieces) ∙ ap (λ n. length piece + n) (total_is pieces)

fields_on_line : (f : Fields) (r : Request) → IsSendable r → AllOnLine (on_line f r)
fields_on_line fields.KeyAlone r s = none
fields_on_line fields.Expiry r s = more (codes " 0") [] refl none
fields_on_line fields.Item r s =
    let few = s.body in
    let narrow = s.flags in
    more (codes " ") _ refl (more (decimal r.flags) _ (no_end r.flags (omega arith))
    (more (codes " 0 ") _ refl (more (decimal (length r.body)) [] (no_end (length r.body) (omega arith)) none)))
fields_on_line fields.Swap r s =
    let few = s.body in
    let narrow = s.flags in
    more (codes " ") _ refl (more (decimal r.flags) _ (no_end r.flags (omega arith))
    (more (codes " 0 ") _ refl (more (decimal (length r.body)) _ (no_end (length r.body) (omega arith))
    (more (codes " ") _ refl (more (decimal r.number) [] (no_end r.number s.number) none)))))
fields_on_line fields.Amount r s = more (codes " ") _ refl (more (decimal r.number) [] (no_end r.number s.number) none)

fields_short : (f : Fields) (r : Request) → IsSendable r → total (on_line f r) ≤ 100
unfolding total
fields_short fields.KeyAlone r s = omega arith
fields_short fields.Expiry r s = omega arith
fields_short fields.Item r s =
    let few = s.body in
    let narrow = s.flags in
    let a = short r.flags (omega arith) in
    let b = short (length r.body) (omega arith) in
    omega arith
fields_short fields.Swap r s =
    let few = s.body in
    let narrow = s.flags in
    let a = short r.flags (omega arith) in
    let b = short (length r.body) (omega arith) in
    let d = short r.number s.number in
    omega arith
fields_short fields.Amount r s = let d = short r.number s.number in omega arith

pub is_line : (word : Word) (f : Fields) (r : Request) → IsOneWord word → length word ≤ 7 → IsSendable r → IsLine (line_text word f r ++ CR ∷ [])
unfolding total
is_line word f r w small s =
    let key = key_short r s in
    let rest = fields_short f r s in
    let n = total_is (line_pieces word f r) in
    let m = length-append (line_text word f r) (CR ∷ []) in
    record {
      one = none_joined (line_text word f r) (CR ∷ [])
          (all_joined (line_pieces word f r)
          (more word _ w.one_line (more (codes " ") _ refl (more r.key _ (key_word r s).one_line (fields_on_line f r s))))) refl;
      short = omega arith;
    }
