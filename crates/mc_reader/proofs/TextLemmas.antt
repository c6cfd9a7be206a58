-- The text of a line.
use Rattle.std.proofs.Common.{◌≡◌, ℕ, ◌+◌, ◌-◌, ◌≤◌, ◌==◌, Bool, true, false, cond, Some, None, List, [], ◌∷◌}
use Rattle.std.proofs.Common.{◌++◌, length, take, drop, get_or, refl, sym, ap, ◌∙◌, arith, length-drop}
use Rattle.std.proofs.{lemmas.Bool.eqb-true, lemmas.List.take-append-drop, lemmas.List.drop_more}
use Rattle.std.specs.Option.{option_map}
use Rattle.mc_reader.specs.Lines.{CR, text_of}

either_text : (b : Bool) (x : ℕ) (text : List ℕ) → option_map (λ t. x ∷ t) (cond b (Some text) None) ≡ cond b (Some (x ∷ text)) None
either_text true x text = refl
either_text false x text = refl

-- the text of bytes with another one after them
pub text_is : (text : List ℕ) (last : ℕ) → text_of (text ++ last ∷ []) ≡ cond (last == CR) (Some text) None
text_is [] last = refl
text_is (x ∷ []) last = either_text (last == CR) x []
text_is (x ∷ y ∷ text) last = ap (option_map (λ t. x ∷ t)) (text_is (y ∷ text) last) ∙ either_text (last == CR) x (y ∷ text)

none : (xs : List ℕ) → length xs ≡ 0 → xs ≡ []
none [] h = refl
none (x ∷ xs) h = absurd (omega arith)

drop_all : (n : ℕ) (xs : List ℕ) → length xs ≤ n → drop n xs ≡ []
drop_all n xs h = none (drop n xs) (let m = length-drop n xs in omega arith)

-- the text of bytes, by the last of them
pub text_last : (line : List ℕ) → 1 ≤ length line
    → text_of line ≡ cond (get_or line (length line - 1) 0 == CR) (Some (take (length line - 1) line)) None
text_last line some =
    let n = length line - 1 in
    let rest = length-drop (n + 1) line in
    let whole : take n line ++ get_or line n 0 ∷ [] ≡ line =
    ap (λ u. take n line ++ get_or line n 0 ∷ u) (sym (drop_all (n + 1) line (omega arith)))
    ∙ ap (λ u. take n line ++ u) (sym (drop_more line n 0 (omega arith))) ∙ take-append-drop n line in
    ap text_of (sym whole) ∙ text_is (take n line) (get_or line n 0)

not_true : (b : Bool) → (b ≡ true → ⊥) → b ≡ false
not_true true h = absurd (h refl)
not_true false h = refl

pub text_ended : (line : List ℕ) → 1 ≤ length line → get_or line (length line - 1) 0 ≡ CR
    → text_of line ≡ Some (take (length line - 1) line)
text_ended line some is =
    text_last line some ∙ ap (λ b. cond b (Some (take (length line - 1) line)) None) (ap (λ x. x == CR) is)

pub text_unended : (line : List ℕ) → 1 ≤ length line → (get_or line (length line - 1) 0 ≡ CR → ⊥) → text_of line ≡ None
text_unended line some isnt =
    text_last line some ∙ ap (λ b. cond b (Some (take (length line - 1) line)) None)
    (not_true (get_or line (length line - 1) 0 == CR) (λ h. isnt (eqb-true (get_or line (length line - 1) 0) CR h)))
