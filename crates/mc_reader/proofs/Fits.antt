-- What is spelled fits.
use Rattle.std.proofs.Common.{◌≡◌, ℕ, ◌≤◌, nat_le, Bool, true, false, ◌&&◌, ◌||◌, not, cond, is_some, Option, Some}
use Rattle.std.proofs.Common.{None, Result, Ok, Err, List, [], ◌∷◌, length, drop, codes, refl, ap, ◌∙◌, subst}
use Rattle.std.proofs.lemmas.Bool.{leb-true, le-leb, and_parts}
use Rattle.std.specs.{Option.option_map, Str.bytes_eq, Str.Parse.digits_value}
use Rattle.mc_protocol.specs.Legal.{class_of, is_legal, shows_number, same, suits, is_fit_for}
use Rattle.mc_protocol.specs.{Decimals.MAX_32, Decimals.MAX_64, Decimals.has_digits_alone, Lines.Word, Lines.Words}
use Rattle.mc_protocol.specs.{declared.limits.TheConstants.REPLY_BODY_LIMIT, declared.reply.Reply.Reply, declared.request.Verb.Verb}
use Rattle.mc_protocol.specs.declared.reply.Class.TheVariants as class
use Rattle.mc_protocol.specs.declared.reply.Reply.TheVariants as reply
use Rattle.mc_reader.specs.Lines.{text_of, line_says, says_of_text, end_fault_of_text, outcome_after}
use Rattle.mc_reader.specs.Replies.{hit_of, LastLineEnds, long_last, last_line, BodyEnds, not_cr, not_lf, after_crlf, too_long, one_line, with_block}
use Rattle.mc_reader.specs.Words.{reply_of_word, error_of, error_says, number_says, item_says, hit_says, others_say}
use Rattle.mc_reader.specs.Words.{text_says, says_after_word, says_after_words, words_of, first_word, are_spaces}
use Rattle.mc_reader.specs.declared.fault.ReadFault.TheVariants.{NotAReply, WrongKey, NumberTooLarge, DataTooLong, ErrorLine, OutOfMemory, Failed}
use Rattle.mc_reader.specs.{Laws.SpelledRepliesFit, Words.are_item_words, Words.is_too_large, Words.end_fault, Words.end_fault_after}
use Rattle.mc_reader.specs.{declared.fault.ErrorKind.ErrorKind, declared.fault.ErrorKind.TheVariants.Error, declared.fault.ErrorKind.TheVariants.Client}
use Rattle.mc_reader.specs.{declared.fault.ErrorKind.TheVariants.Server, declared.fault.ReadFault.ReadFault, declared.limits.TheConstants.NUMBER_SPACES_LIMIT}
use Rattle.mc_reader.specs.{declared.said.HitLine.HitLine, declared.said.Said.Said, declared.said.Said.TheVariants.Whole, declared.said.Said.TheVariants.Hit}

-- what a line may say to the verb: a reply that fits, or a hit that does with any body of its length
abbrev SaidFits : Verb → Said → Type 0
SaidFits verb (Whole r) = is_fit_for verb r ≡ true
SaidFits verb (Hit h) =
    (is_legal verb class.Hit ≡ true) × (same (is_some h.cas) (shows_number verb) ≡ true) × (h.body_len ≤ REPLY_BODY_LIMIT)

-- a fault for which a line may fail: neither want of memory nor an answer before
abbrev pub IsOfLine : ReadFault → Type 0
IsOfLine OutOfMemory = ⊥
IsOfLine Failed = ⊥
IsOfLine fault = Unit {0}

abbrev Fits : Verb → Result Said ReadFault → Type 0
Fits verb (Ok said) = SaidFits verb said
Fits verb (Err fault) = IsOfLine fault

either_fits : (verb : Verb) (b : Bool) (x y : Result Said ReadFault) → (b ≡ true → Fits verb x) → (b ≡ false → Fits verb y)
    → Fits verb (cond b x y)
either_fits verb true x y p q = p refl
either_fits verb false x y p q = q refl

-- ---- replies of one word carry nothing

abbrev IsPlain : Option Reply → Type 0
IsPlain None = Unit {0}
IsPlain (Some r) = (verb : Verb) → suits verb r ≡ true

chain_plain : (a b c d e f g : Bool) → IsPlain (cond a (Some reply.Stored) (cond b (Some reply.NotStored) (cond c (Some reply.Exists)
    (cond d (Some reply.NotFound) (cond e (Some reply.Miss) (cond f (Some reply.Deleted) (cond g (Some reply.Touched) None)))))))
chain_plain true b c d e f g = λ verb. refl
chain_plain false true c d e f g = λ verb. refl
chain_plain false false true d e f g = λ verb. refl
chain_plain false false false true e f g = λ verb. refl
chain_plain false false false false true f g = λ verb. refl
chain_plain false false false false false true g = λ verb. refl
chain_plain false false false false false false true = λ verb. refl
chain_plain false false false false false false false = tt

word_plain : (text : List ℕ) → IsPlain (reply_of_word text)
unfolding reply_of_word
word_plain text =
    chain_plain (bytes_eq text (codes "STORED")) (bytes_eq text (codes "NOT_STORED")) (bytes_eq text (codes "EXISTS"))
    (bytes_eq text (codes "NOT_FOUND")) (bytes_eq text (codes "END")) (bytes_eq text (codes "DELETED")) (bytes_eq text (codes "TOUCHED"))

pub both : (a b : Bool) → a ≡ true → b ≡ true → (a && b) ≡ true
both true b p q = q
both false b p q = absurd (cc)

not_not : (b : Bool) → not b ≡ false → b ≡ true
not_not true p = refl
not_not false p = absurd (cc)

-- ---- lines

number_fits : (verb : Verb) (text : List ℕ) → is_legal verb class.Number ≡ true → Fits verb (number_says text)
unfolding number_says
number_fits verb text legal =
    let digits = first_word text in
    let spaces = drop (length digits) text in
    let n = digits_value 10 digits in
    either_fits verb (has_digits_alone digits && are_spaces spaces && nat_le (length spaces) NUMBER_SPACES_LIMIT)
    (cond (nat_le n MAX_64) (Ok (Whole (reply.Number n))) (Err NumberTooLarge)) (Err NotAReply)
    (λ p. either_fits verb (nat_le n MAX_64) (Ok (Whole (reply.Number n))) (Err NumberTooLarge)
    (λ q. both (is_legal verb class.Number) true legal refl) (λ q. tt))
    (λ p. tt)

-- a chain of refusals, and what is left
chain_fits : (verb : Verb) (a b c d : Bool) (hit : HitLine) → (d ≡ false → SaidFits verb (Hit hit))
    → Fits verb (cond a (Err NotAReply) (cond b (Err WrongKey) (cond c (Err NumberTooLarge) (cond d (Err DataTooLong) (Ok (Hit hit))))))
chain_fits verb true b c d hit p = tt
chain_fits verb false true c d hit p = tt
chain_fits verb false false true d hit p = tt
chain_fits verb false false false true hit p = tt
chain_fits verb false false false false hit p = p refl

shows_as : (cas : Option Word) → is_some (option_map (digits_value 10) cas) ≡ is_some cas
shows_as None = refl
shows_as (Some cas) = refl

item_fits : (verb : Verb) (key name flags body_len : Word) (cas : Option Word) → is_legal verb class.Hit ≡ true
    → same (is_some cas) (shows_number verb) ≡ true → Fits verb (item_says key name flags body_len cas)
unfolding item_says
item_fits verb key name flags body_len cas legal shown =
    chain_fits verb (not (are_item_words name flags body_len cas)) (not (bytes_eq name key))
    (not (nat_le (digits_value 10 flags) MAX_32) || is_too_large cas) (not (nat_le (digits_value 10 body_len) REPLY_BODY_LIMIT))
    (record { flags = digits_value 10 flags; body_len = digits_value 10 body_len; cas = option_map (digits_value 10) cas })
    (λ p. (
      legal,
      ap (λ b. same b (shows_number verb)) (shows_as cas) ∙ shown,
      leb-true (digits_value 10 body_len) REPLY_BODY_LIMIT (not_not (nat_le (digits_value 10 body_len) REPLY_BODY_LIMIT) p),
    ))

hit_fits : (verb : Verb) (key : Word) (words : Words) → is_legal verb class.Hit ≡ true → Fits verb (hit_says verb key words)
unfolding hit_says
hit_fits verb key [] legal = tt
hit_fits verb key (value ∷ []) legal = tt
hit_fits verb key (value ∷ name ∷ []) legal = tt
hit_fits verb key (value ∷ name ∷ flags ∷ []) legal = tt
hit_fits verb key (value ∷ name ∷ flags ∷ body_len ∷ []) legal =
    either_fits verb (bytes_eq value (codes "VALUE") && not (shows_number verb)) (item_says key name flags body_len None) (Err NotAReply)
    (λ p. item_fits verb key name flags body_len None legal (and_parts (bytes_eq value (codes "VALUE")) (not (shows_number verb)) p).1)
    (λ p. tt)
hit_fits verb key (value ∷ name ∷ flags ∷ body_len ∷ cas ∷ []) legal =
    either_fits verb (bytes_eq value (codes "VALUE") && shows_number verb) (item_says key name flags body_len (Some cas)) (Err NotAReply)
    (λ p. item_fits verb key name flags body_len (Some cas) legal (and_parts (bytes_eq value (codes "VALUE")) (shows_number verb) p).1)
    (λ p. tt)
hit_fits verb key (value ∷ name ∷ flags ∷ body_len ∷ cas ∷ other ∷ words) legal = tt

others_fit : (verb : Verb) (key : Word) (text : List ℕ) → Fits verb (others_say verb key text)
unfolding others_say
others_fit verb key text =
    let hit = cond (is_legal verb class.Hit) (hit_says verb key (words_of text)) (Err NotAReply) in
    either_fits verb (is_legal verb class.Number) (number_says text) hit (λ p. number_fits verb text p)
    (λ p. either_fits verb (is_legal verb class.Hit) (hit_says verb key (words_of text)) (Err NotAReply)
    (λ q. hit_fits verb key (words_of text) q) (λ q. tt))

error_fits : (verb : Verb) (kind : ErrorKind) → Fits verb (error_says verb kind)
unfolding error_says
error_fits verb Error = tt
error_fits verb Client =
    either_fits verb (is_legal verb class.NotNumber) (Ok (Whole reply.NotNumber)) (Err (ErrorLine Client))
    (λ p. both (is_legal verb class.NotNumber) true p refl) (λ p. tt)
error_fits verb Server = tt

after_words_fit : (verb : Verb) (key : Word) (text : List ℕ) (kind : Option ErrorKind) → Fits verb (says_after_words verb key text kind)
after_words_fit verb key text None = others_fit verb key text
after_words_fit verb key text (Some kind) = error_fits verb kind

after_word_fits : (verb : Verb) (key : Word) (text : List ℕ) (r : Option Reply) → IsPlain r → Fits verb (says_after_word verb key text r)
after_word_fits verb key text None p = after_words_fit verb key text (error_of text)
after_word_fits verb key text (Some r) p =
    either_fits verb (is_legal verb (class_of r)) (Ok (Whole r)) (Err NotAReply)
    (λ legal. both (is_legal verb (class_of r)) (suits verb r) legal (p verb)) (λ q. tt)

text_fits : (verb : Verb) (key : Word) (text : List ℕ) → Fits verb (text_says verb key text)
unfolding text_says
text_fits verb key text = after_word_fits verb key text (reply_of_word text) (word_plain text)

of_text_fits : (verb : Verb) (key : Word) (text : Option (List ℕ)) → Fits verb (says_of_text verb key text)
of_text_fits verb key None = tt
of_text_fits verb key (Some text) = text_fits verb key text

line_fits : (verb : Verb) (key : Word) (line : List ℕ) → Fits verb (line_says verb key line)
line_fits verb key line = of_text_fits verb key (text_of line)

pub line_fault : (verb : Verb) (key line : Word) (fault : ReadFault) → line_says verb key line ≡ Err fault → IsOfLine fault
line_fault verb key line fault e = subst (Fits verb) e (line_fits verb key line)

-- ---- whole replies

whole_fits : (verb : Verb) (key line : Word) (r : Reply) → line_says verb key line ≡ Ok (Whole r) → is_fit_for verb r ≡ true
whole_fits verb key line r e = subst (Fits verb) e (line_fits verb key line)

hit_line_fits : (verb : Verb) (key line : Word) (hit : HitLine) → line_says verb key line ≡ Ok (Hit hit) → SaidFits verb (Hit hit)
hit_line_fits verb key line hit e = subst (Fits verb) e (line_fits verb key line)

hit_body_fits : (verb : Verb) (hit : HitLine) (body : List ℕ) → SaidFits verb (Hit hit) → length body ≡ hit.body_len
    → is_fit_for verb (hit_of hit body) ≡ true
hit_body_fits verb hit body p e =
    let small : length body ≤ REPLY_BODY_LIMIT = rw e p.2 in
    both (is_legal verb class.Hit) (suits verb (hit_of hit body)) p.0
    (both (same (is_some hit.cas) (shows_number verb)) (nat_le (length body) REPLY_BODY_LIMIT) p.1
    (le-leb (length body) REPLY_BODY_LIMIT small))

ended_reply : (hit r : Reply) (fault : Option ReadFault) → Ok r ≡ outcome_after hit fault → r ≡ hit
ended_reply hit r None e = cc
ended_reply hit r (Some fault) e = absurd (cc)

last_reply : (hit r : Reply) (text : List ℕ) → LastLineEnds hit text (Ok r) → r ≡ hit
last_reply hit r text (long_last p e) = absurd (cc)
last_reply hit r text (last_line line l e d) = ended_reply hit r (end_fault_of_text (text_of line)) e

body_reply : (hit r : Reply) (text : List ℕ) → BodyEnds hit text (Ok r) → r ≡ hit
body_reply hit r text (not_cr c p d e) = absurd (cc)
body_reply hit r text (not_lf c p d e) = absurd (cc)
body_reply hit r text (after_crlf last l d) = last_reply hit r last l

pub spelled_fits : SpelledRepliesFit
spelled_fits verb key text r (too_long p e) = absurd (cc)
spelled_fits verb key text r (one_line line l e d) = whole_fits verb key line r e
spelled_fits verb key text r (with_block line block hit l says p d) =
    rw (body_reply (hit_of hit p.body) r p.rest p.ends) (hit_body_fits verb hit p.body (hit_line_fits verb key line hit says) p.whole)

-- ---- last lines

abbrev IsLast : Option ReadFault → Type 0
IsLast None = Unit {0}
IsLast (Some fault) = IsOfLine fault

after_error_last : (kind : Option ErrorKind) → IsOfLine (end_fault_after kind)
after_error_last None = tt
after_error_last (Some kind) = tt

either_last : (b : Bool) (fault : ReadFault) → IsOfLine fault → IsLast (cond b None (Some fault))
either_last true fault p = tt
either_last false fault p = p

text_last : (text : List ℕ) → IsLast (end_fault text)
unfolding end_fault
text_last text = either_last (bytes_eq text (codes "END")) (end_fault_after (error_of text)) (after_error_last (error_of text))

of_text_last : (text : Option (List ℕ)) → IsLast (end_fault_of_text text)
of_text_last None = tt
of_text_last (Some text) = text_last text

pub end_line_fault : (line : List ℕ) (fault : ReadFault) → end_fault_of_text (text_of line) ≡ Some fault → IsOfLine fault
end_line_fault line fault e = subst IsLast e (of_text_last (text_of line))
