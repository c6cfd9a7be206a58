-- The text of a hit spells it.
use Rattle.std.proofs.Common.{◌≡◌, ℕ, ◌<◌, ◌≤◌, ◌^◌, ◌==◌, nat_le, Bool, true, false, ◌&&◌, ◌||◌, not, cond}
use Rattle.std.proofs.Common.{is_some, Option, Some, None, Ok, Err, List, [], ◌∷◌, ◌++◌, length, get_or, codes}
use Rattle.std.proofs.Common.{decimal, refl, ap, ◌∙◌, arith, append_assoc, append-nil, length-append}
use Rattle.std.proofs.lemmas.Fmt.{decimal_nonempty, digits_decimal, digits_value-decimal, length-decimal-le}
use Rattle.std.proofs.lemmas.List.Splits.{slice_split_none, slice_split_at}
use Rattle.std.proofs.{lemmas.Bool.and_parts, lemmas.Bool.le-leb, lemmas.Bool.leb-true, lemmas.List.Folds.list_any_at, lemmas.Slice.Eq.bytes_eq-Decides}
use Rattle.std.specs.{List.All, List.list_any, Option.option_map, Str.bytes_eq, Str.Parse.digits_value}
use Rattle.mc_protocol.proofs.Digits.{digits}
use Rattle.mc_protocol.specs.Decimals.{MAX_32, MAX_64, has_digits_alone, are_digits}
use Rattle.mc_protocol.specs.Legal.{is_legal, shows_number, same, suits, is_fit_for}
use Rattle.mc_protocol.specs.{Lines.Word, Texts.reply_text, declared.limits.TheConstants.REPLY_BODY_LIMIT, declared.request.Verb.Verb}
use Rattle.mc_protocol.specs.declared.reply.Class.TheVariants as class
use Rattle.mc_protocol.specs.declared.reply.Reply.TheVariants as reply
use Rattle.mc_protocol.specs.declared.request.Verb.TheVariants as verbs
use Rattle.mc_reader.specs.declared.fault.ReadFault.TheVariants.{NotAReply, WrongKey, NumberTooLarge, DataTooLong}
use Rattle.mc_reader.specs.{Items.word_list, Laws.IsKeyText, Lines.CR, Lines.LF, Lines.has_end, Lines.IsLine, Lines.line_says, Lines.says_of_text}
use Rattle.mc_reader.specs.{Replies.BlockEnds, Replies.after_crlf, Replies.last_line, Replies.with_block, Replies.Spells, Words.is_space, Words.words_of}
use Rattle.mc_reader.specs.{Words.reply_of_word, Words.error_of, Words.hit_says, Words.item_says, Words.others_say, Words.number_says, Words.are_item_words}
use Rattle.mc_reader.specs.{Words.is_cas_word, Words.is_too_large, Words.end_fault, declared.limits.TheConstants.LINE_LIMIT, declared.said.Said.TheVariants.Hit}
use Rattle.mc_reader.proofs.WrittenLines.{other_text, none_of_digits, some_length}
use Rattle.mc_reader.proofs.{Blocks.not_true, Fits.both, Gathers.neither_has, Gathers.none_joined, ItemLemmas.hit_is, TextLemmas.text_is}

-- ---- decimals

pub below : (n : ℕ) → n ≤ MAX_64 → n < 2 ^ 64
below n small = omega arith

pub are : (n : ℕ) → n ≤ MAX_64 → are_digits (decimal n) ≡ true
are n small = digits_decimal digits n (below n small)

pub short : (n : ℕ) → n ≤ MAX_64 → length (decimal n) ≤ 20
short n small = length-decimal-le 20 n (omega arith) (omega arith) (below n small)

pub alone : (n : ℕ) → n ≤ MAX_64 → has_digits_alone (decimal n) ≡ true
alone n small =
    both (not (length (decimal n) == 0)) (are_digits (decimal n))
    (some_length (length (decimal n)) (decimal_nonempty n (below n small))) (are n small)

pub value : (n : ℕ) → n ≤ MAX_64 → digits_value 10 (decimal n) ≡ n
value n small = digits_value-decimal digits n (below n small)

-- ---- words

none_all : (test : ℕ → Bool) (xs : List ℕ) → list_any test xs ≡ false → All (λ x. test x ≡ false) xs
none_all test xs h k d l = not_true (test (get_or xs k d))
    (λ p. let q : list_any test xs ≡ true = list_any_at test xs k d l p in absurd (cc))

pub next : (word text : List ℕ) → list_any is_space word ≡ false → words_of (word ++ 32 ∷ text) ≡ word ∷ words_of text
next word text h = slice_split_at is_space word 32 text (none_all is_space word h) refl

pub last : (word : List ℕ) → list_any is_space word ≡ false → words_of word ≡ word ∷ []
last word h = slice_split_none is_space word (none_all is_space word h)

pub no_space : (n : ℕ) → n ≤ MAX_64 → list_any is_space (decimal n) ≡ false
no_space n small = none_of_digits 32 refl (decimal n) (are n small)

pub no_end : (n : ℕ) → n ≤ MAX_64 → has_end (decimal n) ≡ false
no_end n small = none_of_digits 10 refl (decimal n) (are n small)

-- what follows the key, and the text of the line without its CR
abbrev after_len : Option ℕ → List ℕ
after_len None = []
after_len (Some cas) = 32 ∷ decimal cas

abbrev after_key : ℕ → ℕ → Option ℕ → List ℕ
after_key flags len cas = decimal flags ++ 32 ∷ (decimal len ++ after_len cas)

abbrev line_text : Word → ℕ → ℕ → Option ℕ → List ℕ
line_text key flags len cas = codes "VALUE " ++ (key ++ 32 ∷ after_key flags len cas)

-- a cas unique is within 64 bits
IsSmall : Option ℕ → Type 0
IsSmall None = Unit {0}
IsSmall (Some cas) = cas ≤ MAX_64

len_words : (len : ℕ) (cas : Option ℕ) → len ≤ MAX_64 → IsSmall cas
    → words_of (decimal len ++ after_len cas) ≡ decimal len ∷ word_list (option_map decimal cas)
unfolding IsSmall
len_words len None small h = ap words_of (append-nil (decimal len)) ∙ last (decimal len) (no_space len small)
len_words len (Some cas) small h = next (decimal len) (decimal cas) (no_space len small)
    ∙ ap (λ u. decimal len ∷ u) (last (decimal cas) (no_space cas h))

line_words : (key : Word) (flags len : ℕ) (cas : Option ℕ) → IsKeyText key → flags ≤ MAX_64 → len ≤ MAX_64 → IsSmall cas
    → words_of (line_text key flags len cas) ≡ codes "VALUE" ∷ key ∷ decimal flags ∷ decimal len ∷ word_list (option_map decimal cas)
line_words key flags len cas k f l c =
    ap (λ u. codes "VALUE" ∷ u) (next key (after_key flags len cas) k.one_word
    ∙ ap (λ u. key ∷ u) (next (decimal flags) (decimal len ++ after_len cas) (no_space flags f)
    ∙ ap (λ u. decimal flags ∷ u) (len_words len cas l c)))

-- ---- what the line says

no_reply : (key : Word) (flags len : ℕ) (cas : Option ℕ) → reply_of_word (line_text key flags len cas) ≡ None
unfolding reply_of_word
no_reply key flags len cas = refl

no_error : (key : Word) (flags len : ℕ) (cas : Option ℕ) → error_of (line_text key flags len cas) ≡ None
unfolding error_of
no_error key flags len cas = refl

counts_none : (verb : Verb) → is_legal verb class.Hit ≡ true → is_legal verb class.Number ≡ false
counts_none verbs.Set h = refl
counts_none verbs.Add h = refl
counts_none verbs.Replace h = refl
counts_none verbs.Append h = refl
counts_none verbs.Prepend h = refl
counts_none verbs.Cas h = refl
counts_none verbs.Get h = refl
counts_none verbs.Gets h = refl
counts_none verbs.Incr h = absurd (cc)
counts_none verbs.Decr h = absurd (cc)
counts_none verbs.Delete h = refl
counts_none verbs.Touch h = refl

retrieves : (verb : Verb) (key : Word) (text : List ℕ) → is_legal verb class.Hit ≡ true
    → others_say verb key text ≡ hit_says verb key (words_of text)
unfolding others_say
retrieves verb key text legal =
    ap (λ b. cond b (number_says text) (cond (is_legal verb class.Hit) (hit_says verb key (words_of text)) (Err NotAReply)))
    (counts_none verb legal)
    ∙ ap (λ b. cond b (hit_says verb key (words_of text)) (Err NotAReply)) legal

chain : (a b c d : Bool) (x f y n : ℕ) (z w : Option ℕ) → a ≡ false → b ≡ false → c ≡ false → d ≡ false → x ≡ f → y ≡ n → z ≡ w
    → cond a (Err NotAReply) (cond b (Err WrongKey) (cond c (Err NumberTooLarge) (cond d (Err DataTooLong)
    (Ok (Hit (record { flags = x; body_len = y; cas = z }))))))
    ≡ Ok (Hit (record { flags = f; body_len = n; cas = w }))
chain a b c d x f y n z w p q r s e g h = rw (p, q, r, s, e, g, h) refl

pub not_set : (b : Bool) → b ≡ true → not b ≡ false
not_set true h = refl
not_set false h = absurd (cc)

equal_bytes : (word : Word) → bytes_eq word word ≡ true
equal_bytes word = (bytes_eq-Decides word word).1 refl

pub within : (n greatest : ℕ) → n ≤ MAX_64 → n ≤ greatest → nat_le (digits_value 10 (decimal n)) greatest ≡ true
within n greatest small h = ap (λ m. nat_le m greatest) (value n small) ∙ le-leb n greatest h

cas_alone : (cas : Option ℕ) → IsSmall cas → is_cas_word (option_map decimal cas) ≡ true
unfolding IsSmall
cas_alone None h = refl
cas_alone (Some cas) h = alone cas h

cas_small : (cas : Option ℕ) → IsSmall cas → is_too_large (option_map decimal cas) ≡ false
unfolding IsSmall
cas_small None h = refl
cas_small (Some cas) h = not_set (nat_le (digits_value 10 (decimal cas)) MAX_64) (within cas MAX_64 h h)

cas_value : (cas : Option ℕ) → IsSmall cas → option_map (digits_value 10) (option_map decimal cas) ≡ cas
unfolding IsSmall
cas_value None h = refl
cas_value (Some cas) h = ap Some (value cas h)

item_read : (key : Word) (flags len : ℕ) (cas : Option ℕ) → IsKeyText key → flags ≤ MAX_32 → len ≤ REPLY_BODY_LIMIT → IsSmall cas
    → item_says key key (decimal flags) (decimal len) (option_map decimal cas) ≡ Ok
    (Hit (record { flags = flags; body_len = len; cas = cas }))
unfolding item_says
item_read key flags len cas k f l c =
    let small : flags ≤ MAX_64 = omega arith in
    let fits : len ≤ MAX_64 = omega arith in
    let some = k.some in
    let words : are_item_words key (decimal flags) (decimal len) (option_map decimal cas) ≡ true =
    both (not (length key == 0) && has_digits_alone (decimal flags) && has_digits_alone (decimal len))
    (is_cas_word (option_map decimal cas))
    (both (not (length key == 0) && has_digits_alone (decimal flags)) (has_digits_alone (decimal len))
    (both (not (length key == 0)) (has_digits_alone (decimal flags)) (some_length (length key) some) (alone flags small))
    (alone len fits))
    (cas_alone cas c) in
    chain (not (are_item_words key (decimal flags) (decimal len) (option_map decimal cas))) (not (bytes_eq key key))
    (not (nat_le (digits_value 10 (decimal flags)) MAX_32) || is_too_large (option_map decimal cas))
    (not (nat_le (digits_value 10 (decimal len)) REPLY_BODY_LIMIT))
    (digits_value 10 (decimal flags)) flags (digits_value 10 (decimal len)) len (option_map (digits_value 10) (option_map decimal cas)) cas
    (not_set (are_item_words key (decimal flags) (decimal len) (option_map decimal cas)) words)
    (not_set (bytes_eq key key) (equal_bytes key))
    (neither_has (not (nat_le (digits_value 10 (decimal flags)) MAX_32)) (is_too_large (option_map decimal cas))
    (not_set (nat_le (digits_value 10 (decimal flags)) MAX_32) (within flags MAX_32 small f)) (cas_small cas c))
    (not_set (nat_le (digits_value 10 (decimal len)) REPLY_BODY_LIMIT) (within len REPLY_BODY_LIMIT fits l))
    (value flags small) (value len fits) (cas_value cas c)

shown_as : (cas : Option ℕ) → is_some (option_map decimal cas) ≡ is_some cas
shown_as None = refl
shown_as (Some cas) = refl

same_bits : (a b : Bool) → same a b ≡ true → a ≡ b
same_bits true true h = refl
same_bits true false h = absurd (cc)
same_bits false true h = absurd (cc)
same_bits false false h = refl

line_read : (verb : Verb) (key : Word) (flags len : ℕ) (cas : Option ℕ) → IsKeyText key → flags ≤ MAX_32 → len ≤ REPLY_BODY_LIMIT
    → IsSmall cas
    → is_legal verb class.Hit ≡ true → same (is_some cas) (shows_number verb) ≡ true
    → line_says verb key (line_text key flags len cas ++ CR ∷ []) ≡ Ok (Hit (record { flags = flags; body_len = len; cas = cas }))
line_read verb key flags len cas k f l c legal shown =
    let text = line_text key flags len cas in
    ap (says_of_text verb key) (text_is text CR)
    ∙ other_text verb key text (no_reply key flags len cas) (no_error key flags len cas)
    ∙ retrieves verb key text legal
    ∙ ap (hit_says verb key) (line_words key flags len cas k (omega arith) (omega arith) c)
    ∙ hit_is verb key (codes "VALUE") key (decimal flags) (decimal len) (option_map decimal cas) refl
    (shown_as cas ∙ same_bits (is_some cas) (shows_number verb) shown)
    ∙ item_read key flags len cas k f l c

-- ---- the whole text

line_short : (key : Word) (flags len : ℕ) (cas : Option ℕ) → IsKeyText key → flags ≤ MAX_64 → len ≤ MAX_64 → IsSmall cas
    → length (line_text key flags len cas ++ CR ∷ []) < LINE_LIMIT
unfolding IsSmall
line_short key flags len None k f l c =
    let a = length-append (line_text key flags len None) (CR ∷ []) in
    let b = length-append key (32 ∷ after_key flags len None) in
    let d = length-append (decimal flags) (32 ∷ (decimal len ++ after_len None)) in
    let e = length-append (decimal len) (after_len None) in
    let g = short flags f in
    let h = short len l in
    let i = k.short in
    omega arith
line_short key flags len (Some cas) k f l c =
    let a = length-append (line_text key flags len (Some cas)) (CR ∷ []) in
    let b = length-append key (32 ∷ after_key flags len (Some cas)) in
    let d = length-append (decimal flags) (32 ∷ (decimal len ++ after_len (Some cas))) in
    let e = length-append (decimal len) (after_len (Some cas)) in
    let g = short flags f in
    let h = short len l in
    let i = k.short in
    let j = short cas c in
    omega arith

cas_no_end : (cas : Option ℕ) → IsSmall cas → has_end (after_len cas) ≡ false
unfolding IsSmall
cas_no_end None h = refl
cas_no_end (Some cas) h = no_end cas h

line_is : (key : Word) (flags len : ℕ) (cas : Option ℕ) → IsKeyText key → flags ≤ MAX_64 → len ≤ MAX_64 → IsSmall cas
    → IsLine (line_text key flags len cas ++ CR ∷ [])
line_is key flags len cas k f l c = record {
  one =
      none_joined (line_text key flags len cas) (CR ∷ [])
      (none_joined key (32 ∷ after_key flags len cas) k.one_line
      (none_joined (decimal flags) (32 ∷ (decimal len ++ after_len cas)) (no_end flags f)
      (none_joined (decimal len) (after_len cas) (no_end len l) (cas_no_end cas c))))
      refl;
  short = line_short key flags len cas k f l c;
}

-- what follows the line
abbrev block_text : List ℕ → List ℕ
block_text body = body ++ CR ∷ LF ∷ codes "END\r\n"

block_ends : (flags : ℕ) (body : List ℕ) (cas : Option ℕ)
    → BlockEnds (record { flags = flags; body_len = length body; cas = cas }) (block_text body) (Ok (reply.Hit flags body cas))
unfolding end_fault
block_ends flags body cas = record {
  body = body;
  rest = CR ∷ LF ∷ codes "END\r\n";
  whole = refl;
  cut = refl;
  ends = after_crlf (codes "END\r\n") (last_line (codes "END\r") (record { one = refl; short = omega arith }) refl refl) refl;
}

whole_text : (key : Word) (flags : ℕ) (body : List ℕ) (cas : Option ℕ)
    → reply_text key (reply.Hit flags body cas) ≡ (line_text key flags (length body) cas ++ CR ∷ []) ++ LF ∷ block_text body
whole_text key flags body None = simp (append_assoc, append-nil)
whole_text key flags body (Some cas) = simp (append_assoc, append-nil)

hit_spelled : (verb : Verb) (key : Word) (flags : ℕ) (body : List ℕ) (cas : Option ℕ) → IsKeyText key → flags ≤ MAX_32 → IsSmall cas
    → is_fit_for verb (reply.Hit flags body cas) ≡ true
    → Spells verb key (reply_text key (reply.Hit flags body cas)) (reply.Hit flags body cas)
hit_spelled verb key flags body cas k f c fit =
    let parts = and_parts (is_legal verb class.Hit) (suits verb (reply.Hit flags body cas)) fit in
    let suited = and_parts (same (is_some cas) (shows_number verb)) (nat_le (length body) REPLY_BODY_LIMIT) parts.1 in
    let len : length body ≤ REPLY_BODY_LIMIT = leb-true (length body) REPLY_BODY_LIMIT suited.1 in
    with_block (line_text key flags (length body) cas ++ CR ∷ []) (block_text body)
    (record { flags = flags; body_len = length body; cas = cas })
    (line_is key flags (length body) cas k (omega arith) (omega arith) c)
    (line_read verb key flags (length body) cas k f len c parts.0 suited.0)
    (block_ends flags body cas) (whole_text key flags body cas)

pub hit_written : (verb : Verb) (key : Word) (flags : ℕ) (body : List ℕ) → IsKeyText key → flags ≤ MAX_32
    → is_fit_for verb (reply.Hit flags body None) ≡ true
    → Spells verb key (reply_text key (reply.Hit flags body None)) (reply.Hit flags body None)
unfolding IsSmall
hit_written verb key flags body k f fit = hit_spelled verb key flags body None k f tt fit

pub shown_hit_written : (verb : Verb) (key : Word) (flags : ℕ) (body : List ℕ) (cas : ℕ) → IsKeyText key → flags ≤ MAX_32 → cas ≤ MAX_64
    → is_fit_for verb (reply.Hit flags body (Some cas)) ≡ true
    → Spells verb key (reply_text key (reply.Hit flags body (Some cas))) (reply.Hit flags body (Some cas))
unfolding IsSmall
shown_hit_written verb key flags body cas k f c fit = hit_spelled verb key flags body (Some cas) k f c fit
