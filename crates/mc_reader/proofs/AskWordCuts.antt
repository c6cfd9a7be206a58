-- The words of a line, taken one after another.
use Rattle.std.proofs.Common.{◌≡◌, ℕ, ◌+◌, ◌<◌, ◌==◌, Bool, true, false, not, cond, suc, List, [], ◌∷◌}
use Rattle.std.proofs.Common.{length, take, drop, refl, sym, ap, ◌∙◌, subst, arith, length-take}
use Rattle.std.proofs.lemmas.Bool.{eqb-true}
use Rattle.std.specs.List.{position_or_len, filter}
use Rattle.mc_reader.specs.{Words.is_space, Words.words_after, AskWords.BeginsWord, AskWords.BeginsSpace}
use Rattle.mc_protocol.specs.{Lines.Word, Lines.Words, Lines.words_of, declared.lines.Separator.TheVariants.Space}
use Rattle.mc_reader.proofs.Searches.{words_cut}

one_more : (n : ℕ) → 1 + n ≡ suc n
one_more n = omega arith

not_true : (b : Bool) → (b ≡ true → ⊥) → b ≡ false
not_true true h = absurd (h refl)
not_true false h = refl

-- what comes after a word begins with a space
space_next : (text : List ℕ) → BeginsSpace (drop (position_or_len is_space text) text)
space_next [] = tt
space_next (x ∷ xs) =
    elim (is_space x) as (λ b. is_space x ≡ b → BeginsSpace (drop (cond (not b) (1 + position_or_len is_space xs) 0) (x ∷ xs))) [
      | true ↦ λ e. e
      | false ↦ λ e. subst (λ m. BeginsSpace (drop m (x ∷ xs))) (sym (one_more (position_or_len is_space xs))) (space_next xs)
    ] refl

abbrev pub is_some_word : Word → Bool
is_some_word word = not (length word == 0)

after_words : (rest : List ℕ) → BeginsSpace rest → filter is_some_word (words_after rest) ≡ words_of Space rest
after_words [] h = refl
after_words (x ∷ xs) h = rw h refl

pub positive : (word : Word) → 0 < length word → is_some_word word ≡ true
positive word h = ap not (not_true (length word == 0) (λ e. let none = eqb-true (length word) 0 e in absurd (omega arith)))

some_word : (x : ℕ) (xs : List ℕ) → is_space x ≡ false → is_some_word (take (position_or_len is_space (x ∷ xs)) (x ∷ xs)) ≡ true
some_word x xs e =
    let m = length-take (suc (position_or_len is_space xs)) (x ∷ xs) in
    rw (e, one_more (position_or_len is_space xs)) (positive (take (suc (position_or_len is_space xs)) (x ∷ xs)) (omega arith))

pub kept : (b : Bool) (word : Word) (words : Words) → b ≡ true → cond b (word ∷ words) words ≡ word ∷ words
kept true word words e = refl
kept false word words e = absurd (cc)

-- a text that begins with a word: the word, and the words of what comes after it
pub next_cut : (x : ℕ) (xs : List ℕ) → is_space x ≡ false
    → words_of Space (x ∷ xs) ≡ take (position_or_len is_space (x ∷ xs)) (x ∷ xs) ∷ words_of Space (drop (position_or_len is_space (x ∷ xs)) (x ∷ xs))
next_cut x xs e =
    let n = position_or_len is_space (x ∷ xs) in
    ap (filter is_some_word) (words_cut (x ∷ xs))
    ∙ kept (is_some_word (take n (x ∷ xs))) (take n (x ∷ xs)) (filter is_some_word (words_after (drop n (x ∷ xs)))) (some_word x xs e)
    ∙ ap (λ ws. take n (x ∷ xs) ∷ ws) (after_words (drop n (x ∷ xs)) (space_next (x ∷ xs)))

pub next_word_cut : (rest : List ℕ) (n : ℕ) → BeginsWord rest → 0 < length rest → n ≡ position_or_len is_space rest
    → words_of Space rest ≡ take n rest ∷ words_of Space (drop n rest)
next_word_cut [] n h some e = absurd (omega arith)
next_word_cut (x ∷ xs) n h some e = next_cut x xs h ∙ ap (λ m. take m (x ∷ xs) ∷ words_of Space (drop m (x ∷ xs))) (sym e)
