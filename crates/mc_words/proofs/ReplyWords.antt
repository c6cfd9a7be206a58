-- Words are read as a reply exactly where they spell it.
use Rattle.std.proofs.Common.{◌≡◌, ℕ, Option, Some, None, Ok, List, [], ◌∷◌, refl, sym, ap, ◌∙◌, subst}
use Rattle.std.proofs.lemmas.Slice.Eq.{bytes_eq-Decides}
use Rattle.std.specs.Str.{bytes_eq}
use Rattle.mc_protocol.specs.{Legal.class_of, Words.all_classes}
use Rattle.mc_words.specs.Reading.{◌>>=◌, at_end, last_number_in, flags_and_body_in, class_of_word}
use Rattle.mc_words.specs.Reading.{shown_number_in, hit_in, after_class, reply_in}
use Rattle.mc_model.specs.{Types.Reply, Types.Class, Types.Word}
use Rattle.mc_words.specs.{Words.SpellsShown, Words.SpellsReply, Words.class_word}
use Rattle.mc_protocol.specs.declared.reply.Reply.TheVariants as reply
use Rattle.mc_protocol.specs.declared.reply.Class.TheVariants as class
use Rattle.mc_protocol.specs.Decimals.{MAX_32, MAX_64}
use Rattle.mc_protocol.proofs.Found.{find-passes}
use Rattle.mc_words.proofs.FieldWords.{number-read, at_end-ok, last_number-spelled, flags_and_body-spelled}
use Rattle.mc_words.proofs.{Readings.steps-ok, Readings.ok-same, BodyWords.body-read}

-- ---- classes

-- the class with a class's word is that class
pub class_of-word : (c : Class) → class_of_word (class_word c) ≡ Some c
unfolding class_of_word
class_of-word class.Stored = refl
class_of-word _ = refl

pub word-of_class : (word : Word) (c : Class) → class_of_word word ≡ Some c → class_word c ≡ word
unfolding class_of_word
word-of_class word c h = (bytes_eq-Decides (class_word c) word).0 (find-passes (λ d. bytes_eq (class_word d) word) all_classes c h)

-- ---- replies with nothing after their word

bare-spelled : (c : Class) (made : Reply) → ((words : List Word) → words ≡ class_word c ∷ [] → SpellsReply words made)
    → (word : Word) (words : List Word) (r : Reply) → class_of_word word ≡ Some c → at_end made words ≡ Ok r → SpellsReply (word ∷ words) r
bare-spelled c made spells word words r e h =
    let i = at_end-ok made words r h in
    subst (SpellsReply (word ∷ words)) i.1 (spells (word ∷ words) (rw (word-of_class word c e, i.0) refl))

-- ---- hits

shown-spelled : (words : List Word) (n : Option ℕ) → shown_number_in words ≡ Ok n → SpellsShown words n
shown-spelled [] n h = subst (SpellsShown []) (ok-same None n h) refl
shown-spelled (number ∷ others) n h =
    let p = steps-ok (last_number_in (number ∷ others)) (λ m. Ok (Some m)) n h in
    subst (SpellsShown (number ∷ others)) (ok-same (Some p.0) n p.2) (last_number-spelled (number ∷ others) p.0 p.1)

shown-read : (words : List Word) (n : Option ℕ) → SpellsShown words n → shown_number_in words ≡ Ok n
shown-read words None e = rw e refl
shown-read words (Some n) (word, e, number) = rw (e, number-read MAX_64 word n number) refl

hit-spelled : (word : Word) (words : List Word) (r : Reply) → class_word class.Hit ≡ word → hit_in words ≡ Ok r → SpellsReply (word ∷ words) r
hit-spelled word words r w h =
    let p = steps-ok (flags_and_body_in words) (λ x. shown_number_in x.2 >>= λ n. Ok (reply.Hit x.0 x.1 n)) r h in
    let i = flags_and_body-spelled words p.0 p.1 in
    let s = steps-ok (shown_number_in p.0.2) (λ n. Ok (reply.Hit p.0.0 p.0.1 n)) r p.2 in
    subst (SpellsReply (word ∷ words)) (ok-same (reply.Hit p.0.0 p.0.1 s.0) r s.2)
    (i.flags, i.body, p.0.2, ap (λ x. x ∷ words) (sym w) ∙ ap (λ o. class_word class.Hit ∷ o) i.split, i.number, i.bytes, shown-spelled p.0.2 s.0 s.1)

-- ---- numbers that were counted

count-spelled : (word : Word) (words : List Word) (r : Reply) → class_word class.Number ≡ word
    → (last_number_in words >>= λ n. Ok (reply.Number n)) ≡ Ok r → SpellsReply (word ∷ words) r
count-spelled word words r w h =
    let p = steps-ok (last_number_in words) (λ n. Ok (reply.Number n)) r h in
    let n = last_number-spelled words p.0 p.1 in
    subst (SpellsReply (word ∷ words)) (ok-same (reply.Number p.0) r p.2) (n.0, ap (λ x. x ∷ words) (sym w) ∙ ap (λ o. class_word class.Number ∷ o) n.1, n.2)

-- ---- replies

after-spelled : (word : Word) (c : Option Class) (words : List Word) (r : Reply) → class_of_word word ≡ c → after_class c words ≡ Ok r
    → SpellsReply (word ∷ words) r
after-spelled word None words r e h = absurd (cc)
after-spelled word (Some class.Stored) words r e h = bare-spelled class.Stored reply.Stored (λ _ p. p) word words r e h
after-spelled word (Some class.NotStored) words r e h = bare-spelled class.NotStored reply.NotStored (λ _ p. p) word words r e h
after-spelled word (Some class.Exists) words r e h = bare-spelled class.Exists reply.Exists (λ _ p. p) word words r e h
after-spelled word (Some class.NotFound) words r e h = bare-spelled class.NotFound reply.NotFound (λ _ p. p) word words r e h
after-spelled word (Some class.Hit) words r e h = hit-spelled word words r (word-of_class word class.Hit e) h
after-spelled word (Some class.Miss) words r e h = bare-spelled class.Miss reply.Miss (λ _ p. p) word words r e h
after-spelled word (Some class.Deleted) words r e h = bare-spelled class.Deleted reply.Deleted (λ _ p. p) word words r e h
after-spelled word (Some class.Touched) words r e h = bare-spelled class.Touched reply.Touched (λ _ p. p) word words r e h
after-spelled word (Some class.Number) words r e h = count-spelled word words r (word-of_class word class.Number e) h
after-spelled word (Some class.NotNumber) words r e h = bare-spelled class.NotNumber reply.NotNumber (λ _ p. p) word words r e h

pub reply-spelled : (words : List Word) (r : Reply) → reply_in words ≡ Ok r → SpellsReply words r
unfolding reply_in
reply-spelled [] r h = absurd (cc)
reply-spelled (word ∷ words) r h = after-spelled word (class_of_word word) words r refl h

-- what comes after a class's word is read by the class
class-read : (c : Class) (words others : List Word) (r : Reply) → words ≡ class_word c ∷ others → after_class (Some c) others ≡ Ok r → reply_in words ≡ Ok r
unfolding reply_in
class-read c words others r e h = rw (e, class_of-word c) h

pub reply-read : (words : List Word) (r : Reply) → SpellsReply words r → reply_in words ≡ Ok r
reply-read words (reply.Hit flags body cas) (f, b, shown, e, p, q, s) =
    class-read class.Hit words (f ∷ b ∷ shown) (reply.Hit flags body cas) e
    (rw (number-read MAX_32 f flags p, body-read b body q, shown-read shown cas s) refl)
reply-read words (reply.Number n) (word, e, number) = class-read class.Number words (word ∷ []) (reply.Number n) e (rw (number-read MAX_64 word n number) refl)
reply-read words r e = class-read (class_of r) words [] r e refl

-- words spell one reply
pub one_reply : (words : List Word) (r s : Reply) → SpellsReply words r → SpellsReply words s → r ≡ s
one_reply words r s a b = ok-same r s (sym (reply-read words r a) ∙ reply-read words s b)
