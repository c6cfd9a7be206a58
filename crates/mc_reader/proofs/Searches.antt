-- What a search for a byte finds.
use Rattle.std.proofs.Common.{◌≡◌, ℕ, ◌+◌, ◌<◌, ◌==◌, Bool, true, false, not, cond, Option, Some, None, List, [], ◌∷◌, ◌++◌}
use Rattle.std.proofs.Common.{length, take, drop, get_or, suc, refl, sym, ap, ◌∙◌, subst, arith, length-take, get_or-take}
use Rattle.std.proofs.lemmas.List.{take-append-drop, take-take, drop_more, get_or_default}
use Rattle.std.proofs.{lemmas.Bool.eqb-true, lemmas.List.Folds.list_any_none, lemmas.List.Sums.position_or_len_is}
use Rattle.std.specs.{List.position_or_len, List.onto_first, Option.unwrap_or}
use Rattle.memchr.specs.Find.{IsFirstByte, is_byte}
use Rattle.mc_reader.specs.{Gathered.IsFirstEnd, Lines.LF, Lines.has_end, Words.is_space, Words.words_of, Words.first_word, Words.words_after}

not_true : (b : Bool) → (b ≡ true → ⊥) → b ≡ false
not_true true h = absurd (h refl)
not_true false h = refl

-- the place of a byte that is found, or the length where it isn't
pub first_place : (byte : ℕ) (text : List ℕ) (r : Option ℕ) → IsFirstByte (is_byte byte) text r
    → position_or_len (λ x. x == byte) text ≡ unwrap_or r (length text)
first_place byte text None h =
    position_or_len_is (λ x. x == byte) text (length text) 0 (omega arith)
    (λ k l. not_true (get_or text k 0 == byte) (h k (omega arith) l)) (λ l. absurd (omega arith))
first_place byte text (Some k) h =
    let high = h.0.high in
    position_or_len_is (λ x. x == byte) text k 0 (omega arith)
    (λ j l. not_true (get_or text j 0 == byte) (h.0.before j (omega arith) l)) (λ l. h.1)

-- ---- words

one_more : (n : ℕ) → 1 + n ≡ suc n
one_more n = omega arith

cut_more : (b : Bool) (x : ℕ) (xs : List ℕ) (n : ℕ) → words_of xs ≡ take n xs ∷ words_after (drop n xs)
    → cond b ([] ∷ words_of xs) (onto_first x (words_of xs))
    ≡ take (cond (not b) (1 + n) 0) (x ∷ xs) ∷ words_after (drop (cond (not b) (1 + n) 0) (x ∷ xs))
cut_more true x xs n h = refl
cut_more false x xs n h =
    ap (onto_first x) h ∙ sym (ap (λ m. take m (x ∷ xs) ∷ words_after (drop m (x ∷ xs))) (one_more n))

-- the words of a text are its first word and those of what comes after it
pub words_cut : (text : List ℕ) → words_of text ≡ first_word text ∷ words_after (drop (position_or_len is_space text) text)
words_cut [] = refl
words_cut (x ∷ xs) = cut_more (is_space x) x xs (position_or_len is_space xs) (words_cut xs)

-- ---- lines

no_end : (bytes : List ℕ) → ((k : ℕ) → k < length bytes → (get_or bytes k 0 == LF) ≡ false) → has_end bytes ≡ false
no_end bytes h = list_any_none (λ byte. byte == LF) bytes (λ k d l. rw (get_or_default bytes k d 0 l) (h k l))

pub none_found : (bytes : List ℕ) → IsFirstByte (is_byte LF) bytes None → has_end bytes ≡ false
none_found bytes h = no_end bytes (λ k l. not_true (get_or bytes k 0 == LF) (h k (omega arith) l))

pub end_found : (room : ℕ) (piece : List ℕ) (at : ℕ) → IsFirstByte (is_byte LF) (take room piece) (Some at)
    → (at < room) × IsFirstEnd piece at
end_found room piece at h =
    let high = h.0.high in
    let long = length-take room piece in
    let below : at < room = omega arith in
    let within : at < length piece = omega arith in
    let lf : get_or piece at 0 ≡ LF = sym (get_or-take room piece at 0 below) ∙ eqb-true (get_or (take room piece) at 0) LF h.1 in
    let none : has_end (take at (take room piece)) ≡ false =
    no_end (take at (take room piece)) (λ k l.
    let n = length-take at (take room piece) in
    let early : k < at = omega arith in
    rw (get_or-take at (take room piece) k 0 early) (not_true (get_or (take room piece) k 0 == LF) (h.0.before k (omega arith) early))) in (
      below,
      record {
        within = within;
        cut = ap (λ byte. take at piece ++ byte ∷ drop (at + 1) piece) (sym lf)
            ∙ ap (λ rest. take at piece ++ rest) (sym (drop_more piece at 0 within)) ∙ take-append-drop at piece;
        none_before = subst (λ u. has_end u ≡ false) (take-take at room piece (omega arith)) none;
      },
    )
