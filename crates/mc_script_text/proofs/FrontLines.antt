-- The words of a text are those of its lines, one after another; and the first lines of a text are those of their bytes.
use Rattle.std.proofs.Common.{◌≡◌, ℕ, ◌+◌, ◌-◌, ◌<◌, ◌≤◌, ◌==◌, suc, Bool, true, false, cond, ◌⊎◌, inl, inr, ⊎_elim, List, [], ◌∷◌, ◌++◌, length}
use Rattle.std.proofs.Common.{map, take, drop, min, get_or, if◌then◌else◌, refl, sym, ap, subst, ◌∙◌, append-nil, length-take, arith}
use Rattle.std.proofs.{lemmas.Bool.eqb-true, lemmas.List.take_all, lemmas.List.drop_all}
use Rattle.std.specs.List.{concat, flat_map, AllByRecursion}
use Rattle.bstr.specs.Text.{line_len, lines_of, without_terminator}
use Rattle.bstr.proofs.lemmas.LineLemmas.{EndsLine, line_len-bounds, lines-nil, lines-step, lines-append}
use Rattle.mc_protocol.specs.declared.lines.Separator.{Separator}
use Rattle.mc_protocol.specs.Lines.{words_of, words_of_text, is_skipped, counted_from, Line, LAST_NUMBER, Words}
use Rattle.mc_protocol.proofs.FirstItems.{head_is, rest_is}

-- ---- words

-- the words of a line, with its own end, if it counts
abbrev pub line_words : Separator → List ℕ → List Words
line_words separator line =
    if is_skipped separator (without_terminator line) then [] else words_of separator (without_terminator line) ∷ []

counted-first : (separator : Separator) (skips : Bool) (first : Line) (others : List Line)
    → map (λ line. words_of separator line.text) (if skips then others else first ∷ others)
    ≡ (if skips then [] else words_of separator first.text ∷ []) ++ map (λ line. words_of separator line.text) others
counted-first separator true first others = refl
counted-first separator false first others = refl

words-counted : (separator : Separator) (number : ℕ) (lines : List (List ℕ))
    → map (λ line. words_of separator line.text) (counted_from separator number (map without_terminator lines))
    ≡ flat_map (line_words separator) lines
words-counted separator number [] = refl
words-counted separator number (line ∷ lines) =
    let here = min (number + 1) LAST_NUMBER in
    let text = without_terminator line in
    let others = counted_from separator here (map without_terminator lines) in
    counted-first separator (is_skipped separator text) (record { number = here; text = text }) others
    ∙ ap (λ words. line_words separator line ++ words) (words-counted separator here lines)

-- the words of a text are those of its lines
pub words-by_lines : (separator : Separator) (text : List ℕ)
    → words_of_text separator text ≡ flat_map (line_words separator) (lines_of text)
words-by_lines separator text = words-counted separator 0 (lines_of text)

-- ---- lines

-- the bytes are one line
abbrev pub IsLine : List ℕ → Type 0
IsLine line = lines_of line ≡ line ∷ []

-- the words of a text that is one line
pub words-of_line : (separator : Separator) (line : List ℕ) → IsLine line → words_of_text separator line ≡ line_words separator line
words-of_line separator line one =
    words-by_lines separator line ∙ ap (flat_map (line_words separator)) one ∙ append-nil (line_words separator line)

line_len-by : (b : ℕ) (rest : List ℕ) (ends : Bool) → (b == 10) ≡ ends → line_len (take (line_len rest) rest) ≡ line_len rest
    → line_len (take (cond ends 1 (suc (line_len rest))) (b ∷ rest)) ≡ cond ends 1 (suc (line_len rest))
unfolding line_len
line_len-by b rest true is again = ap (λ t. cond t 1 (suc (line_len []))) is
line_len-by b rest false is again = ap (λ t. cond t 1 (suc (line_len (take (line_len rest) rest)))) is ∙ ap suc again

-- the first line is as long by itself
line_len-take : (bs : List ℕ) → line_len (take (line_len bs) bs) ≡ line_len bs
unfolding line_len
line_len-take [] = refl
line_len-take (b ∷ rest) = line_len-by b rest (b == 10) refl (line_len-take rest)

first-line : (bs : List ℕ) → 0 < length bs → IsLine (take (line_len bs) bs)
first-line bs some =
    let k = line_len bs in
    let line = take k bs in
    let bounds = line_len-bounds bs some in
    let size = length-take k bs in
    let positive : 0 < length line = omega (arith, bounds.0, bounds.1, size) in
    let whole : length line ≤ k = omega (arith, size) in
    lines-step line positive ∙ ap (λ j. take j line ∷ lines_of (drop j line)) (line_len-take bs)
    ∙ ap (λ l. l ∷ lines_of (drop k line)) (take_all k line whole) ∙ ap (λ l. line ∷ lines_of l) (drop_all k line whole)
    ∙ ap (λ ls. line ∷ ls) lines-nil

ends-after : (b : ℕ) (bs : List ℕ) → get_or bs (length bs - 1) 0 ≡ 10 → get_or (b ∷ bs) (length (b ∷ bs) - 1) 0 ≡ 10
ends-after b [] is = absurd (omega (arith, is))
ends-after b (c ∷ bs) is =
    let place : length (c ∷ bs) ≡ length (b ∷ c ∷ bs) - 1 = omega arith in
    let here : get_or (b ∷ c ∷ bs) (length (c ∷ bs)) 0 ≡ 10 = is-at (length (c ∷ bs) - 1) (length (c ∷ bs)) (omega arith) is in
    subst (λ j. get_or (b ∷ c ∷ bs) j 0 ≡ 10) place here
  where
    is-at : (i j : ℕ) → j ≡ suc i → get_or (c ∷ bs) i 0 ≡ 10 → get_or (b ∷ c ∷ bs) j 0 ≡ 10
    is-at i j e h = subst (λ n. get_or (b ∷ c ∷ bs) n 0 ≡ 10) (sym e) h

first-ends-by : (b : ℕ) (rest : List ℕ) (ends : Bool) → (b == 10) ≡ ends
    → EndsLine (take (line_len rest) rest) ⊎ (line_len rest ≡ length rest)
    → (0 < length rest → 0 < line_len rest)
    → EndsLine (take (cond ends 1 (suc (line_len rest))) (b ∷ rest)) ⊎ (cond ends 1 (suc (line_len rest)) ≡ length (b ∷ rest))
unfolding line_len
first-ends-by b rest true is h some = inl (inr (eqb-true b 10 is))
first-ends-by b rest false is (inr whole) some = inr (ap suc whole)
first-ends-by b rest false is (inl (inr feed)) some = inl (inr (ends-after b (take (line_len rest) rest) feed))
first-ends-by b [] false is (inl (inl none)) some = inr refl
first-ends-by b (c ∷ rest) false is (inl (inl none)) some =
    let size = length-take (line_len (c ∷ rest)) (c ∷ rest) in
    let positive = some (omega arith) in
    absurd (omega (arith, none, size, positive))

-- the first line ends with a line feed, or is the only one
first-ends : (bs : List ℕ) → EndsLine (take (line_len bs) bs) ⊎ (line_len bs ≡ length bs)
unfolding line_len
first-ends [] = inr refl
first-ends (b ∷ rest) = first-ends-by b rest (b == 10) refl (first-ends rest) (λ some. (line_len-bounds rest some).0)

last-line : (x : List ℕ) (xs others : List (List ℕ)) → IsLine x → [] ≡ xs ++ others → lines_of (x ++ concat xs) ≡ x ∷ xs
last-line x [] others one e = ap lines_of (append-nil x) ∙ one
last-line x (y ∷ xs) others one e = absurd (cc)

-- the first lines of a text are those of their bytes, and each is a line by itself
pub lines-of_front : (text : List ℕ) (xs others : List (List ℕ)) → lines_of text ≡ xs ++ others
    → (lines_of (concat xs) ≡ xs) × AllByRecursion IsLine xs
lines-of_front text [] others e = (lines-nil, tt)
lines-of_front [] (x ∷ xs) others e = let none = sym lines-nil ∙ e in absurd (cc)
lines-of_front (b ∷ rest) (x ∷ xs) others e =
    let all = b ∷ rest in
    let k = line_len all in
    let split = sym (lines-step all (omega arith)) ∙ e in
    let first = head_is (take k all) x (lines_of (drop k all)) (xs ++ others) split in
    let next = rest_is (take k all) x (lines_of (drop k all)) (xs ++ others) split in
    let onward = lines-of_front (drop k all) xs others next in
    let one : IsLine x = subst IsLine first (first-line all (omega arith)) in (
      ⊎_elim
          (λ ends. lines-append (length x) x (concat xs) (omega arith) (subst EndsLine first ends)
          ∙ ap (λ ls. ls ++ lines_of (concat xs)) one ∙ ap (λ ls. x ∷ ls) onward.0)
          (λ whole. last-line x xs others one (sym (ap lines_of (drop_all k all (omega (arith, whole))) ∙ lines-nil) ∙ next))
          (first-ends all),
      (one, onward.1),
    )
