-- Lines that are printed: a text of them falls into them again.
use Rattle.std.proofs.Common.{◌≡◌, ◌≢◌, ℕ, ◌+◌, ◌-◌, ◌<◌, ◌==◌, nat_le, nat_lt, Bool, true, false, not, ◌&&◌, List, [], ◌∷◌, ◌++◌, length}
use Rattle.std.proofs.Common.{map, take, slice_index, filter, refl, sym, ap, ◌∙◌, arith, append-nil, length-append, inr, min}
use Rattle.std.proofs.lemmas.Bool.{and_parts, and_from, cond-true, cond-false, eq-eqb, lt-ltb}
use Rattle.std.proofs.{lemmas.Bool.Decides.nat_tests, lemmas.List.Elements.All-weaker, lemmas.List.Folds.list_all-append, lemmas.List.Splits.slice_split_none}
use Rattle.std.proofs.{lemmas.List.Splits.slice_split_at, lemmas.List.Sums.AllPass-from_list_all, Math.ListN.get_or-append, Math.Seq.take-append_seam}
use Rattle.std.specs.List.{All, list_all, slice_split}
use Rattle.bstr.specs.Text.{lines_of, no_cr, without_terminator}
use Rattle.bstr.proofs.lemmas.LineLemmas.{lines-append, lines-one, lines-nil}
use Rattle.mc_protocol.specs.declared.lines.Separator.TheVariants.{SpaceOrTab}
use Rattle.mc_protocol.specs.Lines.{separates, is_skipped, words_of, words_of_text, counted_from, LAST_NUMBER, Word, Words}
use Rattle.mc_script_text.specs.PrintedScript.{spaced_text, line_text, lines_text}

-- a byte of a word: visible, and no `#`
abbrev pub is_plain : ℕ → Bool
is_plain byte = (nat_le 33 byte && nat_le byte 126) && not (byte == 35)

abbrev pub are_plain : Word → Bool
are_plain word = list_all is_plain word

abbrev pub is_whole : Word → Bool
is_whole word = not (length word == 0) && are_plain word

abbrev pub are_whole : Words → Bool
are_whole words = list_all is_whole words

abbrev pub is_line : Words → Bool
is_line words = not (length words == 0) && are_whole words

abbrev pub are_lines : List Words → Bool
are_lines lines = list_all is_line lines

pub all-weaker : {X : Type 0} (p q : X → Bool) → ((x : X) → p x ≡ true → q x ≡ true) → (xs : List X) → list_all p xs ≡ true → list_all q xs ≡ true
all-weaker p q weaker [] all = refl
all-weaker p q weaker (x ∷ xs) all =
    let h = and_parts (p x) (list_all p xs) all in
    and_from (q x) (list_all q xs) (weaker x h.0) (all-weaker p q weaker xs h.1)

-- ---- words of a line

-- the words of a line, without its end
abbrev inner : Words → List ℕ
inner [] = []
inner (word ∷ words) = word ++ spaced_text words

plain-apart : (byte : ℕ) → is_plain byte ≡ true → separates SpaceOrTab byte ≡ false
plain-apart byte h = grind (arith, nat_tests)

none-separates : (word : Word) → are_plain word ≡ true → All (λ byte. separates SpaceOrTab byte ≡ false) word
none-separates word plain =
    All-weaker (λ byte. is_plain byte ≡ true) (λ byte. separates SpaceOrTab byte ≡ false) plain-apart word (AllPass-from_list_all is_plain word plain)

whole-parts : (word : Word) (words : Words) → are_whole (word ∷ words) ≡ true
    → (not (length word == 0) ≡ true) × (are_plain word ≡ true) × (are_whole words ≡ true)
whole-parts word words all =
    let p = and_parts (is_whole word) (are_whole words) all in
    let q = and_parts (not (length word == 0)) (are_plain word) p.0 in
    (q.0, q.1, p.1)

-- the pieces between the spaces are the words
splits : (word : Word) (words : Words) → are_whole (word ∷ words) ≡ true → slice_split (separates SpaceOrTab) (word ++ spaced_text words) ≡ word ∷ words
splits word [] all =
    ap (slice_split (separates SpaceOrTab)) (append-nil word)
    ∙ slice_split_none (separates SpaceOrTab) word (none-separates word (whole-parts word [] all).1)
splits word (next ∷ words) all =
    let (some, plain, others) = whole-parts word (next ∷ words) all in
    slice_split_at (separates SpaceOrTab) word 32 (next ++ spaced_text words) (none-separates word plain) refl
    ∙ ap (λ pieces. word ∷ pieces) (splits next words others)

-- no word is left out
keeps : (words : Words) → are_whole words ≡ true → filter (λ word. not (length word == 0)) words ≡ words
keeps [] all = refl
keeps (word ∷ words) all =
    let (some, plain, others) = whole-parts word words all in rw some (ap (λ rest. word ∷ rest) (keeps words others))

words-of-line : (words : Words) → is_line words ≡ true → words_of SpaceOrTab (inner words) ≡ words
words-of-line [] h = absurd (cc)
words-of-line (word ∷ words) h =
    let all = (and_parts (not (length (word ∷ words) == 0)) (are_whole (word ∷ words)) h).1 in
    ap (filter (λ w. not (length w == 0))) (splits word words all) ∙ keeps (word ∷ words) all

plain-first : (byte : ℕ) → is_plain byte ≡ true → (byte == 35) ≡ false
plain-first byte h = grind (arith, nat_tests)

-- the line counts
counts : (words : Words) → is_line words ≡ true → is_skipped SpaceOrTab (inner words) ≡ false
counts [] h = absurd (cc)
counts ([] ∷ words) h =
    let empty = (and_parts (is_whole []) (are_whole words) (and_parts (not (length ([] ∷ words) == 0)) (are_whole ([] ∷ words)) h).1).0 in absurd (cc)
counts ((byte ∷ bytes) ∷ words) h =
    let all = (and_parts (not (length ((byte ∷ bytes) ∷ words) == 0)) (are_whole ((byte ∷ bytes) ∷ words)) h).1 in
    let first = (and_parts (is_plain byte) (are_plain bytes) (whole-parts (byte ∷ bytes) words all).1).0 in
    rw (plain-first byte first, plain-apart byte first) refl

-- ---- lines of a text

abbrev is_in_line : ℕ → Bool
is_in_line byte = nat_le 32 byte && nat_le byte 126

plain-in-line : (byte : ℕ) → is_plain byte ≡ true → is_in_line byte ≡ true
plain-in-line byte h = grind (arith, nat_tests)

word-in-line : (word : Word) → are_plain word ≡ true → list_all is_in_line word ≡ true
word-in-line word plain = all-weaker is_plain is_in_line plain-in-line word plain

behind-in-line : (words : Words) → are_whole words ≡ true → list_all is_in_line (spaced_text words) ≡ true
behind-in-line [] all = refl
behind-in-line (word ∷ words) all =
    let (some, plain, others) = whole-parts word words all in
    rw (list_all-append is_in_line word (spaced_text words), word-in-line word plain, behind-in-line words others) refl

inner-in-line : (words : Words) → are_whole words ≡ true → list_all is_in_line (inner words) ≡ true
inner-in-line [] all = refl
inner-in-line (word ∷ words) all =
    let (some, plain, others) = whole-parts word words all in
    rw (list_all-append is_in_line word (spaced_text words), word-in-line word plain, behind-in-line words others) refl

-- no byte of a line ends it
in_line-no_end : (byte : ℕ) → is_in_line byte ≡ true → (byte ≡ 10 → ⊥) × ((byte == 13) ≡ false)
in_line-no_end byte h = (λ e. absurd (grind (arith, nat_tests)), grind (arith, nat_tests))

in_line-at : (line : List ℕ) (k : ℕ) → list_all is_in_line line ≡ true → k < length line → is_in_line (slice_index line k) ≡ true
in_line-at line k all lt = AllPass-from_list_all is_in_line line all k 0 lt

last_is_feed : (line : List ℕ) → slice_index (line ++ 10 ∷ []) (length line) ≡ 10
last_is_feed [] = refl
last_is_feed (byte ∷ bytes) = last_is_feed bytes

no_end_inside : (line : List ℕ) → list_all is_in_line line ≡ true → (k : ℕ) → k + 1 < length (line ++ 10 ∷ []) → slice_index (line ++ 10 ∷ []) k ≢ 10
no_end_inside line all k lt e =
    let long = length-append line (10 ∷ []) in
    let here : k < length line = omega arith in
    (in_line-no_end (slice_index line k) (in_line-at line k all here)).0 (sym (get_or-append line (10 ∷ []) 0 k here) ∙ e)

line-first : (line rest : List ℕ) → list_all is_in_line line ≡ true → lines_of ((line ++ 10 ∷ []) ++ rest) ≡ (line ++ 10 ∷ []) ∷ lines_of rest
line-first line rest all =
    let whole = line ++ 10 ∷ [] in
    let long = length-append line (10 ∷ []) in
    let last : length whole - 1 ≡ length line = omega arith in
    lines-append (length whole) whole rest (omega arith) (inr (ap (slice_index whole) last ∙ last_is_feed line))
    ∙ ap (λ ls. ls ++ lines_of rest) (lines-one whole (omega arith) (no_end_inside line all))

and_false : (a b : Bool) → b ≡ false → (a && b) ≡ false
and_false true b e = e
and_false false b e = refl

keeps_cr : (line : List ℕ) → list_all is_in_line line ≡ true → no_cr line ≡ line
keeps_cr [] all = refl
keeps_cr (byte ∷ bytes) all =
    let line = byte ∷ bytes in
    let last = in_line-at line (length line - 1) all (omega arith) in
    cond-false _ _ _ (and_false (nat_lt 0 (length line)) _ (in_line-no_end (slice_index line (length line - 1)) last).1)

line-ended : (line : List ℕ) → list_all is_in_line line ≡ true → without_terminator (line ++ 10 ∷ []) ≡ line
line-ended line all =
    let whole = line ++ 10 ∷ [] in
    let long = length-append line (10 ∷ []) in
    let last : length whole - 1 ≡ length line = omega arith in
    let some : nat_lt 0 (length whole) ≡ true = lt-ltb 0 (length whole) (omega arith) in
    let feed : (slice_index whole (length whole - 1) == 10) ≡ true = eq-eqb _ 10 (ap (slice_index whole) last ∙ last_is_feed line) in
    let front : take (length whole - 1) whole ≡ line = ap (λ k. take k whole) last ∙ take-append_seam line (10 ∷ []) in
    cond-true _ _ _ (and_from (nat_lt 0 (length whole)) _ some feed) ∙ ap no_cr front ∙ keeps_cr line all

line_text-inner : (words : Words) → line_text words ≡ inner words ++ 10 ∷ []
line_text-inner [] = refl
line_text-inner (word ∷ words) = refl

lines-printed : (lines : List Words) → are_lines lines ≡ true → map without_terminator (lines_of (lines_text lines)) ≡ map inner lines
lines-printed [] all = ap (map without_terminator) lines-nil
lines-printed (words ∷ lines) all =
    let p = and_parts (is_line words) (are_lines lines) all in
    let in_line = inner-in-line words (and_parts (not (length words == 0)) (are_whole words) p.0).1 in
    ap (λ t. map without_terminator (lines_of (t ++ lines_text lines))) (line_text-inner words)
    ∙ ap (map without_terminator) (line-first (inner words) (lines_text lines) in_line)
    ∙ ap (λ l. l ∷ map without_terminator (lines_of (lines_text lines))) (line-ended (inner words) in_line)
    ∙ ap (λ ls. inner words ∷ ls) (lines-printed lines p.1)

words-printed : (number : ℕ) (lines : List Words) → are_lines lines ≡ true
    → map (λ line. words_of SpaceOrTab line.text) (counted_from SpaceOrTab number (map inner lines)) ≡ lines
words-printed number [] all = refl
words-printed number (words ∷ lines) all =
    let p = and_parts (is_line words) (are_lines lines) all in
    let here = min (number + 1) LAST_NUMBER in
    rw (counts words p.0)
    (ap (λ w. w ∷ map (λ line. words_of SpaceOrTab line.text) (counted_from SpaceOrTab here (map inner lines))) (words-of-line words p.0)
    ∙ ap (λ ls. words ∷ ls) (words-printed here lines p.1))

-- a text of lines has these lines
pub lines_fall_apart : (lines : List Words) → are_lines lines ≡ true → words_of_text SpaceOrTab (lines_text lines) ≡ lines
lines_fall_apart lines all =
    ap (λ ls. map (λ line. words_of SpaceOrTab line.text) (counted_from SpaceOrTab 0 ls)) (lines-printed lines all) ∙ words-printed 0 lines all
