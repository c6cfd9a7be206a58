-- The lines of an explanation, and of forms, one after the other.
use Rattle.std.proofs.Common.{◌≡◌, ℕ, ◌+◌, ◌<◌, List, [], ◌∷◌, ◌++◌, take, drop, length, get_or, sym, ap, ◌∙◌, append_assoc}
use Rattle.std.proofs.lemmas.List.{drop_more, flat_map_more, take_more}
use Rattle.std.specs.List.{flat_map}
use Rattle.mc_model.specs.Sections.{Sections}
use Rattle.mc_history.specs.declared.explanation.Move.{Move}
use Rattle.mc_why.specs.{WhyText.form_text, WhyText.move_text, WhyText.order_text, WhyText.start_text, declared.form.Form.Form}

-- one more item at the start
pub starts_on : (front back out : List ℕ) (xs : List (List ℕ × ℕ)) (i : ℕ) (x d : List ℕ × ℕ) → i < length xs → x ≡ get_or xs i d
    → back ≡ front ++ flat_map start_text (take i xs) → out ≡ back ++ start_text x → out ≡ front ++ flat_map start_text (take (i + 1) xs)
starts_on front back out xs i x d less here known printed =
    printed ∙ ap (λ (y : List ℕ × ℕ). back ++ start_text y) here
    ∙ ap (λ (ys : List ℕ). ys ++ start_text (get_or xs i d)) known
    ∙ flat_map_more start_text front (take i xs) (get_or xs i d)
    ∙ ap (λ (ys : List (List ℕ × ℕ)). front ++ flat_map start_text ys) (sym (take_more xs i d less))

-- one more form
pub forms_on : (front back out : List ℕ) (xs : List Form) (i : ℕ) (x d : Form) → i < length xs → x ≡ get_or xs i d
    → back ≡ front ++ flat_map form_text (take i xs) → out ≡ back ++ form_text x → out ≡ front ++ flat_map form_text (take (i + 1) xs)
forms_on front back out xs i x d less here known printed =
    printed ∙ ap (λ (y : Form). back ++ form_text y) here
    ∙ ap (λ (ys : List ℕ). ys ++ form_text (get_or xs i d)) known
    ∙ flat_map_more form_text front (take i xs) (get_or xs i d)
    ∙ ap (λ (ys : List Form). front ++ flat_map form_text ys) (sym (take_more xs i d less))

-- one more move
pub moves_on : (s : Sections) (moves : List Move) (i : ℕ) (d : Move) (out next whole : List ℕ) → i < length moves
    → next ≡ out ++ move_text s (take i moves) (get_or moves i d)
    → out ++ order_text s (take i moves) (drop i moves) ≡ whole
    → next ++ order_text s (take (i + 1) moves) (drop (i + 1) moves) ≡ whole
moves_on s moves i d out next whole less e before =
    let by = get_or moves i d in
    let first : take (i + 1) moves ≡ take i moves ++ by ∷ [] = take_more moves i d less in
    let rest : drop i moves ≡ by ∷ drop (i + 1) moves = drop_more moves i d less in
    let more : List ℕ = order_text s (take i moves ++ by ∷ []) (drop (i + 1) moves) in
    ap (λ (l : List Move). next ++ order_text s l (drop (i + 1) moves)) first
    ∙ ap (λ (l : List ℕ). l ++ more) e
    ∙ append_assoc out (move_text s (take i moves) by) more
    ∙ sym (ap (λ (l : List Move). out ++ order_text s (take i moves) l) rest) ∙ before
