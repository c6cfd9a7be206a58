-- Lines that announce a hit, and those that don't.
use Rattle.std.proofs.Common.{◌≡◌, Bool, true, false, ◌&&◌, not, cond, is_some, Option, Some, None, Err, [], ◌∷◌, codes, refl, sym, ap, ◌∙◌}
use mathlib.Core.Bool.{beq}
use Rattle.std.specs.{Borrow.Bor, Str.bytes_eq}
use Rattle.mc_protocol.specs.{Legal.shows_number, Lines.Word, Lines.Words, declared.request.Verb.Verb}
use Rattle.mc_reader.specs.{Items.IsNoItem, Items.word_list, Items.shown, Words.hit_says, Words.item_says, declared.fault.ReadFault.TheVariants.NotAReply}
use Rattle.mc_reader.proofs.Fits.{both}

-- ---- fewer words than four, or more than five

pub one_word : (words x : Words) (a : Word) → words ≡ a ∷ x → x ≡ [] → IsNoItem words
unfolding hit_says
one_word words x a e f verb key = ap (hit_says verb key) (e ∙ ap (λ u. a ∷ u) f)

pub two_words : (words x y : Words) (a b : Word) → words ≡ a ∷ x → x ≡ b ∷ y → y ≡ [] → IsNoItem words
unfolding hit_says
two_words words x y a b e f g verb key = ap (hit_says verb key) (e ∙ ap (λ u. a ∷ u) (f ∙ ap (λ u. b ∷ u) g))

pub three_words : (words x y z : Words) (a b c : Word) → words ≡ a ∷ x → x ≡ b ∷ y → y ≡ c ∷ z → z ≡ [] → IsNoItem words
unfolding hit_says
three_words words x y z a b c e f g h verb key =
    ap (hit_says verb key) (e ∙ ap (λ u. a ∷ u) (f ∙ ap (λ u. b ∷ u) (g ∙ ap (λ u. c ∷ u) h)))

pub six_words : (words x y z v w s : Words) (a b c d k l : Word) → words ≡ a ∷ x → x ≡ b ∷ y → y ≡ c ∷ z → z ≡ d ∷ v → v ≡ k ∷ w → w ≡ l ∷ s
    → IsNoItem words
unfolding hit_says
six_words words x y z v w s a b c d k l e f g h i j verb key =
    ap (hit_says verb key)
    (e ∙ ap (λ u. a ∷ u) (f ∙ ap (λ u. b ∷ u) (g ∙ ap (λ u. c ∷ u) (h ∙ ap (λ u. d ∷ u) (i ∙ ap (λ u. k ∷ u) j)))))

-- ---- four words or five

flip : (b : Bool) → false ≡ b → not b ≡ true
flip true e = absurd (cc)
flip false e = refl

one_fails : (a b : Bool) → b ≡ false → (a && b) ≡ false
one_fails true b e = e
one_fails false b e = refl

pub first_fails : (a b : Bool) → a ≡ false → (a && b) ≡ false
first_fails true b e = absurd (cc)
first_fails false b e = refl

pub hit_is : (verb : Verb) (key value name flags body_len : Word) (cas : Option Word) → bytes_eq value (codes "VALUE") ≡ true
    → is_some cas ≡ shows_number verb
    → hit_says verb key (value ∷ name ∷ flags ∷ body_len ∷ word_list cas) ≡ item_says key name flags body_len cas
unfolding hit_says
hit_is verb key value name flags body_len None e f =
    ap (λ b. cond b (item_says key name flags body_len None) (Err NotAReply))
    (both (bytes_eq value (codes "VALUE")) (not (shows_number verb)) e (flip (shows_number verb) f))
hit_is verb key value name flags body_len (Some cas) e f =
    ap (λ b. cond b (item_says key name flags body_len (Some cas)) (Err NotAReply))
    (both (bytes_eq value (codes "VALUE")) (shows_number verb) e (sym f))

pub another_value : (verb : Verb) (key value name flags body_len : Word) (cas : Option Word) → bytes_eq value (codes "VALUE") ≡ false
    → hit_says verb key (value ∷ name ∷ flags ∷ body_len ∷ word_list cas) ≡ Err NotAReply
unfolding hit_says
another_value verb key value name flags body_len None e =
    ap (λ b. cond b (item_says key name flags body_len None) (Err NotAReply))
    (first_fails (bytes_eq value (codes "VALUE")) (not (shows_number verb)) e)
another_value verb key value name flags body_len (Some cas) e =
    ap (λ b. cond b (item_says key name flags body_len (Some cas)) (Err NotAReply))
    (first_fails (bytes_eq value (codes "VALUE")) (shows_number verb) e)

not_flip : (b : Bool) → (false ≡ b → ⊥) → not b ≡ false
not_flip true h = refl
not_flip false h = absurd (h refl)

not_set : (b : Bool) → (true ≡ b → ⊥) → b ≡ false
not_set true h = absurd (h refl)
not_set false h = refl

pub another_count : (verb : Verb) (key value name flags body_len : Word) (cas : Option Word) → (is_some cas ≡ shows_number verb → ⊥)
    → hit_says verb key (value ∷ name ∷ flags ∷ body_len ∷ word_list cas) ≡ Err NotAReply
unfolding hit_says
another_count verb key value name flags body_len None h =
    ap (λ b. cond b (item_says key name flags body_len None) (Err NotAReply))
    (one_fails (bytes_eq value (codes "VALUE")) (not (shows_number verb)) (not_flip (shows_number verb) h))
another_count verb key value name flags body_len (Some cas) h =
    ap (λ b. cond b (item_says key name flags body_len (Some cas)) (Err NotAReply))
    (one_fails (bytes_eq value (codes "VALUE")) (shows_number verb) (not_set (shows_number verb) h))

-- ---- what the tests say

set_false : (b : Bool) → true ≡ not b → b ≡ false
set_false true h = absurd (cc)
set_false false h = refl

set_true : (b : Bool) → false ≡ not b → b ≡ true
set_true true h = refl
set_true false h = absurd (cc)

pub value_differs : (value slice : Word) → slice ≡ codes "VALUE" → true ≡ not (bytes_eq value slice)
    → bytes_eq value (codes "VALUE") ≡ false
value_differs value slice e h = ap (bytes_eq value) (sym e) ∙ set_false (bytes_eq value slice) h

pub value_same : (value slice : Word) → slice ≡ codes "VALUE" → false ≡ not (bytes_eq value slice) → bytes_eq value (codes "VALUE") ≡ true
value_same value slice e h = ap (bytes_eq value) (sym e) ∙ set_true (bytes_eq value slice) h

shown_too : (cas : Option (Bor Word)) → is_some (shown cas) ≡ is_some cas
shown_too None = refl
shown_too (Some word) = refl

equal_from : (x y : Bool) → not (beq x y) ≡ false → x ≡ y
equal_from true true h = refl
equal_from true false h = absurd (cc)
equal_from false true h = absurd (cc)
equal_from false false h = refl

differ_from : (x y : Bool) → not (beq x y) ≡ true → x ≡ y → ⊥
differ_from true true h e = absurd (cc)
differ_from true false h e = absurd (cc)
differ_from false true h e = absurd (cc)
differ_from false false h e = absurd (cc)

pub counts_same : (cas : Option (Bor Word)) (verb : Verb) (x y : Bool) → x ≡ is_some cas → y ≡ shows_number verb → not (beq x y) ≡ false
    → is_some (shown cas) ≡ shows_number verb
counts_same cas verb x y e f h = shown_too cas ∙ sym e ∙ equal_from x y h ∙ f

pub counts_differ : (cas : Option (Bor Word)) (verb : Verb) (x y : Bool) → x ≡ is_some cas → y ≡ shows_number verb → not (beq x y) ≡ true
    → is_some (shown cas) ≡ shows_number verb → ⊥
counts_differ cas verb x y e f h same = differ_from x y h (e ∙ sym (shown_too cas) ∙ same ∙ sym f)
