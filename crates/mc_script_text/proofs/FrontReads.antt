-- The front of a text is found line by line.
use Rattle.std.proofs.Common.{◌≡◌, ℕ, ◌+◌, ◌≤◌, true, false, List, ◌∷◌, ◌++◌, length, take, drop, refl}
use Rattle.std.proofs.Common.{sym, ap, ◌∙◌, append-nil, append_assoc, length-append, length-take, arith}
use Rattle.std.proofs.lemmas.List.{take-append-drop, take_at, drop_at}
use Rattle.std.specs.List.{concat}
use Rattle.bstr.specs.Text.{lines_of}
use Rattle.bstr.proofs.lemmas.RestLemmas.{concat-lines_of}
use Rattle.mc_script_text.specs.Reading.{is_end, to_end}

-- `len` bytes of the text were taken, and these lines are left of it
pub record Reaches (text : List ℕ) (len : ℕ) (lines : List (List ℕ)) : Type 0 where
  pub within : len ≤ length text
  pub left : drop len text ≡ concat lines
  pub same : concat (to_end (lines_of text)) ≡ take len text ++ concat (to_end lines)

pub reaches-start : (text : List ℕ) → Reaches text 0 (lines_of text)
reaches-start text = record {
  within = omega arith;
  left = sym (concat-lines_of text);
  same = refl;
}

joined : (text line : List ℕ) (lines : List (List ℕ)) (len : ℕ) → drop len text ≡ line ++ concat lines
    → text ≡ (take len text ++ line) ++ concat lines
joined text line lines len left =
    sym (take-append-drop len text) ∙ ap (λ rest. take len text ++ rest) left ∙ sym (append_assoc (take len text) line (concat lines))

size : (text line : List ℕ) (len : ℕ) → len ≤ length text → length (take len text ++ line) ≡ len + length line
size text line len within =
    let both = length-append (take len text) line in
    let first = length-take len text in
    omega (arith, both, first, within)

-- one line more
pub taken-more : (text line : List ℕ) (lines : List (List ℕ)) (len : ℕ) → Reaches text len (line ∷ lines)
    → take (len + length line) text ≡ take len text ++ line
taken-more text line lines len r =
    ap (take (len + length line)) (joined text line lines len r.left)
    ∙ take_at (take len text ++ line) (concat lines) (len + length line) (size text line len r.within)

pub within-more : (text line : List ℕ) (lines : List (List ℕ)) (len : ℕ) → Reaches text len (line ∷ lines) → len + length line ≤ length text
within-more text line lines len r =
    let whole = ap length (joined text line lines len r.left) in
    let both = length-append (take len text ++ line) (concat lines) in
    let front = size text line len r.within in
    omega (arith, whole, both, front)

-- one line further on, where it is not `end`
pub reaches-more : (text line : List ℕ) (lines : List (List ℕ)) (len : ℕ) → Reaches text len (line ∷ lines) → is_end line ≡ false
    → Reaches text (len + length line) lines
reaches-more text line lines len r goes =
    let next : concat (to_end (line ∷ lines)) ≡ line ++ concat (to_end lines) = rw goes refl in
    record {
      within = within-more text line lines len r;
      left = ap (drop (len + length line)) (joined text line lines len r.left)
          ∙ drop_at (take len text ++ line) (concat lines) (len + length line) (size text line len r.within);
      same = r.same ∙ ap (λ rest. take len text ++ rest) next ∙ sym (append_assoc (take len text) line (concat (to_end lines)))
          ∙ ap (λ front. front ++ concat (to_end lines)) (sym (taken-more text line lines len r));
    }

-- at `end`
pub reaches-end : (text line : List ℕ) (lines : List (List ℕ)) (len : ℕ) → Reaches text len (line ∷ lines) → is_end line ≡ true
    → take (len + length line) text ≡ concat (to_end (lines_of text))
reaches-end text line lines len r is =
    let last : concat (to_end (line ∷ lines)) ≡ line = rw is (append-nil line) in
    taken-more text line lines len r ∙ sym (r.same ∙ ap (λ rest. take len text ++ rest) last)
