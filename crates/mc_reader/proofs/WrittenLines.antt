-- The texts of replies of one line spell them.
use Rattle.std.proofs.Common.{◌≡◌, ℕ, ◌+◌, ◌<◌, ◌≤◌, ◌^◌, ◌==◌, nat_le, Bool, true, false, ◌&&◌, not, cond}
use Rattle.std.proofs.Common.{Some, None, Ok, Err, List, [], ◌∷◌, ◌++◌, length, take, drop, codes, decimal}
use Rattle.std.proofs.Common.{suc, refl, sym, ap, ◌∙◌, subst, arith, append_assoc, length-append}
use Rattle.std.proofs.lemmas.Fmt.{decimal_nonempty, digits_decimal, digits_value-decimal, length-decimal-le}
use Rattle.std.proofs.{lemmas.Bool.and_parts, lemmas.Bool.eqb-true, lemmas.Bool.le-leb, lemmas.Bool.Decides.nat_tests, lemmas.List.take_all}
use Rattle.std.specs.{List.list_any, List.position_or_len, Str.bytes_eq, Str.Parse.digits_value}
use Rattle.mc_protocol.proofs.Digits.{digits}
use Rattle.mc_protocol.specs.{Decimals.MAX_64, Decimals.is_digit, Decimals.are_digits, Decimals.has_digits_alone, Legal.class_of, Legal.is_legal, Legal.suits}
use Rattle.mc_protocol.specs.{Legal.is_fit_for, Lines.Word, Texts.reply_text, declared.reply.Reply.Reply, declared.request.Verb.Verb}
use Rattle.mc_protocol.specs.declared.reply.Class.TheVariants as class
use Rattle.mc_protocol.specs.declared.reply.Reply.TheVariants as reply
use Rattle.mc_reader.specs.Words.{is_space, first_word, words_of, are_spaces, reply_of_word, error_of, error_says, number_says}
use Rattle.mc_reader.specs.Words.{others_say, text_says, says_after_word, says_after_words, hit_says}
use Rattle.mc_reader.specs.declared.fault.ReadFault.TheVariants.{NotAReply, NumberTooLarge, ErrorLine}
use Rattle.mc_reader.specs.declared.fault.ErrorKind.TheVariants.{Error, Client, Server}
use Rattle.mc_reader.specs.{Lines.CR, Lines.LF, Lines.has_end, Lines.line_says, Lines.says_of_text, Replies.one_line, Replies.Spells}
use Rattle.mc_reader.specs.{declared.limits.TheConstants.NUMBER_SPACES_LIMIT, declared.said.Said.TheVariants.Whole}
use Rattle.mc_reader.proofs.LineEnds.{neither, has_end-append}
use Rattle.mc_reader.proofs.{Blocks.not_true, Fits.both, Gathers.neither_has, ItemLemmas.first_fails, TextLemmas.text_is}

-- ---- replies of one word

pub legal_of : (verb : Verb) (r : Reply) → is_fit_for verb r ≡ true → is_legal verb (class_of r) ≡ true
legal_of verb r fit = (and_parts (is_legal verb (class_of r)) (suits verb r) fit).0

pub stored : (verb : Verb) (key : Word) → is_fit_for verb reply.Stored ≡ true → Spells verb key (reply_text key reply.Stored) reply.Stored
unfolding text_says reply_of_word
stored verb key fit =
    one_line (codes "STORED\r") (record { one = refl; short = omega arith })
    (ap (λ b. cond b (Ok (Whole reply.Stored)) (Err NotAReply)) (legal_of verb reply.Stored fit)) refl

pub not_stored : (verb : Verb) (key : Word) → is_fit_for verb reply.NotStored ≡ true
    → Spells verb key (reply_text key reply.NotStored) reply.NotStored
unfolding text_says reply_of_word
not_stored verb key fit =
    one_line (codes "NOT_STORED\r") (record { one = refl; short = omega arith })
    (ap (λ b. cond b (Ok (Whole reply.NotStored)) (Err NotAReply)) (legal_of verb reply.NotStored fit)) refl

pub exists : (verb : Verb) (key : Word) → is_fit_for verb reply.Exists ≡ true → Spells verb key (reply_text key reply.Exists) reply.Exists
unfolding text_says reply_of_word
exists verb key fit =
    one_line (codes "EXISTS\r") (record { one = refl; short = omega arith })
    (ap (λ b. cond b (Ok (Whole reply.Exists)) (Err NotAReply)) (legal_of verb reply.Exists fit)) refl

pub not_found : (verb : Verb) (key : Word) → is_fit_for verb reply.NotFound ≡ true
    → Spells verb key (reply_text key reply.NotFound) reply.NotFound
unfolding text_says reply_of_word
not_found verb key fit =
    one_line (codes "NOT_FOUND\r") (record { one = refl; short = omega arith })
    (ap (λ b. cond b (Ok (Whole reply.NotFound)) (Err NotAReply)) (legal_of verb reply.NotFound fit)) refl

pub miss : (verb : Verb) (key : Word) → is_fit_for verb reply.Miss ≡ true → Spells verb key (reply_text key reply.Miss) reply.Miss
unfolding text_says reply_of_word
miss verb key fit =
    one_line (codes "END\r") (record { one = refl; short = omega arith })
    (ap (λ b. cond b (Ok (Whole reply.Miss)) (Err NotAReply)) (legal_of verb reply.Miss fit)) refl

pub deleted : (verb : Verb) (key : Word) → is_fit_for verb reply.Deleted ≡ true
    → Spells verb key (reply_text key reply.Deleted) reply.Deleted
unfolding text_says reply_of_word
deleted verb key fit =
    one_line (codes "DELETED\r") (record { one = refl; short = omega arith })
    (ap (λ b. cond b (Ok (Whole reply.Deleted)) (Err NotAReply)) (legal_of verb reply.Deleted fit)) refl

pub touched : (verb : Verb) (key : Word) → is_fit_for verb reply.Touched ≡ true
    → Spells verb key (reply_text key reply.Touched) reply.Touched
unfolding text_says reply_of_word
touched verb key fit =
    one_line (codes "TOUCHED\r") (record { one = refl; short = omega arith })
    (ap (λ b. cond b (Ok (Whole reply.Touched)) (Err NotAReply)) (legal_of verb reply.Touched fit)) refl

pub not_number : (verb : Verb) (key : Word) → is_fit_for verb reply.NotNumber ≡ true
    → Spells verb key (reply_text key reply.NotNumber) reply.NotNumber
unfolding text_says reply_of_word error_of error_says
not_number verb key fit =
    one_line (codes "CLIENT_ERROR cannot increment or decrement non-numeric value\r") (record { one = refl; short = omega arith })
    (ap (λ b. cond b (Ok (Whole reply.NotNumber)) (Err (ErrorLine Client))) (legal_of verb reply.NotNumber fit)) refl

-- ---- words of digits

digit_isnt : (byte other : ℕ) → is_digit byte ≡ true → is_digit other ≡ false → (byte == other) ≡ false
digit_isnt byte other p q =
    not_true (byte == other) (λ h. let e : is_digit other ≡ true = subst (λ b. is_digit b ≡ true) (eqb-true byte other h) p in absurd (cc))

-- no byte of them is another than a digit
pub none_of_digits : (other : ℕ) → is_digit other ≡ false → (word : Word) → are_digits word ≡ true → list_any (λ b. b == other) word ≡ false
none_of_digits other q [] h = refl
none_of_digits other q (b ∷ word) h =
    let p = and_parts (is_digit b) (are_digits word) h in
    neither_has (b == other) (list_any (λ b. b == other) word) (digit_isnt b other p.0 q) (none_of_digits other q word p.1)

one_and : (n m : ℕ) → n ≡ m → 1 + n ≡ suc m
one_and n m e = omega arith

place_none : (test : ℕ → Bool) (word : Word) → list_any test word ≡ false → position_or_len test word ≡ length word
place_none test [] h = refl
place_none test (b ∷ word) h =
    let p = neither (test b) (list_any test word) h in
    ap (λ t. cond (not t) (1 + position_or_len test word) 0) p.0
    ∙ one_and (position_or_len test word) (length word) (place_none test word p.1)

-- a word with no space is the first of a text that is it alone
alone : (word : Word) → list_any is_space word ≡ false → first_word word ≡ word
alone word h = ap (λ n. take n word) (place_none is_space word h) ∙ take_all (length word) word (omega arith)

-- a word that begins with a digit is none that begins with another byte
other_word : (b other : ℕ) (word rest : Word) → (b == other) ≡ false → bytes_eq (b ∷ word) (other ∷ rest) ≡ false
other_word b other word rest h = first_fails (b == other) (bytes_eq word rest) h

no_word : (a b c d e f g : Bool) → a ≡ false → b ≡ false → c ≡ false → d ≡ false → e ≡ false → f ≡ false → g ≡ false
    → cond a (Some reply.Stored) (cond b (Some reply.NotStored) (cond c (Some reply.Exists)
    (cond d (Some reply.NotFound) (cond e (Some reply.Miss) (cond f (Some reply.Deleted) (cond g (Some reply.Touched) None)))))) ≡ None
no_word a b c d e f g p q r s t u v = rw (p, q, r, s, t, u, v) refl

no_error : (a b c : Bool) → a ≡ false → b ≡ false → c ≡ false
    → cond a (Some Error) (cond b (Some Client) (cond c (Some Server) None)) ≡ None
no_error a b c p q r = rw (p, q, r) refl

digits_no_reply : (word : Word) → 0 < length word → are_digits word ≡ true → reply_of_word word ≡ None
unfolding reply_of_word
digits_no_reply [] some h = absurd (omega arith)
digits_no_reply (b ∷ word) some h =
    let p = (and_parts (is_digit b) (are_digits word) h).0 in
    no_word (bytes_eq (b ∷ word) (codes "STORED")) (bytes_eq (b ∷ word) (codes "NOT_STORED")) (bytes_eq (b ∷ word) (codes "EXISTS"))
    (bytes_eq (b ∷ word) (codes "NOT_FOUND")) (bytes_eq (b ∷ word) (codes "END")) (bytes_eq (b ∷ word) (codes "DELETED"))
    (bytes_eq (b ∷ word) (codes "TOUCHED"))
    (other_word b 83 word (codes "TORED") (digit_isnt b 83 p refl)) (other_word b 78 word (codes "OT_STORED") (digit_isnt b 78 p refl))
    (other_word b 69 word (codes "XISTS") (digit_isnt b 69 p refl)) (other_word b 78 word (codes "OT_FOUND") (digit_isnt b 78 p refl))
    (other_word b 69 word (codes "ND") (digit_isnt b 69 p refl)) (other_word b 68 word (codes "ELETED") (digit_isnt b 68 p refl))
    (other_word b 84 word (codes "OUCHED") (digit_isnt b 84 p refl))

digits_no_error : (word : Word) → 0 < length word → are_digits word ≡ true → error_of word ≡ None
unfolding error_of
digits_no_error [] some h = absurd (omega arith)
digits_no_error (b ∷ word) some h =
    let p = (and_parts (is_digit b) (are_digits word) h).0 in
    let first = alone (b ∷ word) (none_of_digits 32 refl (b ∷ word) h) in
    no_error (bytes_eq (first_word (b ∷ word)) (codes "ERROR")) (bytes_eq (first_word (b ∷ word)) (codes "CLIENT_ERROR"))
    (bytes_eq (first_word (b ∷ word)) (codes "SERVER_ERROR"))
    (ap (λ w. bytes_eq w (codes "ERROR")) first ∙ other_word b 69 word (codes "RROR") (digit_isnt b 69 p refl))
    (ap (λ w. bytes_eq w (codes "CLIENT_ERROR")) first ∙ other_word b 67 word (codes "LIENT_ERROR") (digit_isnt b 67 p refl))
    (ap (λ w. bytes_eq w (codes "SERVER_ERROR")) first ∙ other_word b 83 word (codes "ERVER_ERROR") (digit_isnt b 83 p refl))

drop_whole : (word : Word) → drop (length word) word ≡ []
drop_whole [] = refl
drop_whole (b ∷ word) = drop_whole word

pub some_length : (n : ℕ) → 0 < n → not (n == 0) ≡ true
some_length n some = grind (arith, nat_tests)

chosen : (alone : Bool) (spaces : List ℕ) (value n : ℕ) → alone ≡ true → spaces ≡ [] → value ≡ n → n ≤ MAX_64
    → cond (alone && are_spaces spaces && nat_le (length spaces) NUMBER_SPACES_LIMIT)
    (cond (nat_le value MAX_64) (Ok (Whole (reply.Number value))) (Err NumberTooLarge)) (Err NotAReply) ≡ Ok (Whole (reply.Number n))
chosen alone spaces value n p q r small = rw (p, q, r, le-leb n MAX_64 small) refl

-- a word of digits is read as its number
number_read : (word : Word) (n : ℕ) → 0 < length word → are_digits word ≡ true → digits_value 10 word ≡ n → n ≤ MAX_64
    → number_says word ≡ Ok (Whole (reply.Number n))
unfolding number_says
number_read word n some h value small =
    let first = alone word (none_of_digits 32 refl word h) in
    let left : drop (length (first_word word)) word ≡ [] = ap (λ w. drop (length w) word) first ∙ drop_whole word in
    let digits : has_digits_alone (first_word word) ≡ true =
    ap has_digits_alone first ∙ both (not (length word == 0)) (are_digits word) (some_length (length word) some) h in
    let number : digits_value 10 (first_word word) ≡ n = ap (digits_value 10) first ∙ value in
    chosen (has_digits_alone (first_word word)) (drop (length (first_word word)) word) (digits_value 10 (first_word word)) n digits left
    number small

-- what others say where the verb counts
counts : (verb : Verb) (key : Word) (text : List ℕ) → is_legal verb class.Number ≡ true → others_say verb key text ≡ number_says text
unfolding others_say
counts verb key text legal =
    ap (λ b. cond b (number_says text) (cond (is_legal verb class.Hit) (hit_says verb key (words_of text)) (Err NotAReply))) legal

-- a text that is neither a reply of one word nor an error
pub other_text : (verb : Verb) (key : Word) (text : List ℕ) → reply_of_word text ≡ None → error_of text ≡ None
    → text_says verb key text ≡ others_say verb key text
unfolding text_says
other_text verb key text p q = ap (says_after_word verb key text) p ∙ ap (says_after_words verb key text) q

pub number : (verb : Verb) (key : Word) (n : ℕ) → n ≤ MAX_64 → is_fit_for verb (reply.Number n) ≡ true
    → Spells verb key (reply_text key (reply.Number n)) (reply.Number n)
number verb key n small fit =
    let below : n < 2 ^ 64 = omega arith in
    let word = decimal n in
    let some = decimal_nonempty n below in
    let are = digits_decimal digits n below in
    let short : length word ≤ 20 = length-decimal-le 20 n (omega arith) (omega arith) below in
    let long = length-append word (CR ∷ []) in
    let says : line_says verb key (word ++ CR ∷ []) ≡ Ok (Whole (reply.Number n)) =
    ap (says_of_text verb key) (text_is word CR)
    ∙ other_text verb key word (digits_no_reply word some are) (digits_no_error word some are)
    ∙ counts verb key word (legal_of verb (reply.Number n) fit)
    ∙ number_read word n some are (digits_value-decimal digits n below) small in
    let unended : has_end (word ++ CR ∷ []) ≡ false =
    has_end-append word (CR ∷ []) ∙ neither_has (has_end word) (has_end (CR ∷ [])) (none_of_digits 10 refl word are) refl in
    one_line (word ++ CR ∷ []) (record { one = unended; short = omega arith }) says (sym (append_assoc word (CR ∷ []) (LF ∷ [])))
