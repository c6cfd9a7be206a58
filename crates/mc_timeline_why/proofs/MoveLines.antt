-- The lines of an explanation, one after the other.
use Rattle.std.proofs.Common.{◌≡◌, ◌<◌, ◌≤◌, ◌+◌, ◌⊎◌, inl, inr, ℕ, replicate, get_or}
use Rattle.std.proofs.Common.{List, ◌∷◌, ◌++◌, take, drop, length, sym, subst, ap, ◌∙◌, append_assoc}
use Rattle.std.proofs.lemmas.Bool.{cases_lt}
use Rattle.std.proofs.lemmas.List.{drop_more, flat_map_more, get_or_past, get_or-replicate, length-replicate, take_more}
use Rattle.std.specs.List.{flat_map}
use Rattle.mc_timeline.specs.Timelines.{ClientNote}
use Rattle.mc_linearize.specs.declared.explanation.TimelineMove.{TimelineMove}
use Rattle.mc_timeline_why.specs.Cursors.{places_in}
use Rattle.mc_timeline_why.specs.TimelineWhyText.{Places, move_text, next_from, number_text, order_text, places_after, start_text}

-- one more item at the start
pub starts_on : (front back out : List ℕ) (xs : List (List ℕ × ℕ)) (i : ℕ) (x d : List ℕ × ℕ) → i < length xs → x ≡ get_or xs i d
    → back ≡ front ++ flat_map start_text (take i xs) → out ≡ back ++ start_text x → out ≡ front ++ flat_map start_text (take (i + 1) xs)
starts_on front back out xs i x d less here known printed =
    printed ∙ ap (λ (y : List ℕ × ℕ). back ++ start_text y) here
    ∙ ap (λ (ys : List ℕ). ys ++ start_text (get_or xs i d)) known
    ∙ flat_map_more start_text front (take i xs) (get_or xs i d)
    ∙ ap (λ (ys : List (List ℕ × ℕ)). front ++ flat_map start_text ys) (sym (take_more xs i d less))

-- one more number
pub numbers_on : (front back out xs : List ℕ) (i d : ℕ) → i < length xs → back ≡ front ++ flat_map number_text (take i xs)
    → out ≡ back ++ number_text (get_or xs i d) → out ≡ front ++ flat_map number_text (take (i + 1) xs)
numbers_on front back out xs i d less known printed =
    printed
    ∙ ap (λ (ys : List ℕ). ys ++ number_text (get_or xs i d)) known
    ∙ flat_map_more number_text front (take i xs) (get_or xs i d)
    ∙ ap (λ (ys : List ℕ). front ++ flat_map number_text ys) (sym (take_more xs i d less))

abbrev zeros : List ℕ
zeros = replicate 256 0

zero_at : (client : ℕ) → get_or zeros client 0 ≡ 0
zero_at client = by (cases_lt client 256)
  where
    by : (client < 256) ⊎ (256 ≤ client) → get_or zeros client 0 ≡ 0
    by (inl less) = get_or-replicate 256 client 0 0 less
    by (inr past) =
        let size : length zeros ≡ 256 = length-replicate {A = ℕ} 256 0 in
        get_or_past zeros client 0 (subst (λ n. n ≤ client) (sym size) past)

-- before the first move each request is looked for from the first note on
pub from_start : ◌≡◌ {A = Places} (places_in zeros) (λ client. 0)
from_start = λ i client. zero_at client i

-- one more move
pub moves_on : (notes : List ClientNote) (moves : List TimelineMove) (i : ℕ) (d : TimelineMove) (old new : Places) (out next whole : List ℕ)
    → i < length moves
    → next ≡ out ++ move_text notes old (get_or moves i d)
    → new ≡ places_after old (get_or moves i d).client (next_from notes old (get_or moves i d).client)
    → out ++ order_text notes old (drop i moves) ≡ whole
    → next ++ order_text notes new (drop (i + 1) moves) ≡ whole
moves_on notes moves i d old new out next whole less e places before =
    let by = get_or moves i d in
    let after : Places = places_after old by.client (next_from notes old by.client) in
    let rest : drop i moves ≡ by ∷ drop (i + 1) moves = drop_more moves i d less in
    let more : List ℕ = order_text notes after (drop (i + 1) moves) in
    ap (λ (p : Places). next ++ order_text notes p (drop (i + 1) moves)) places
    ∙ ap (λ (l : List ℕ). l ++ more) e
    ∙ append_assoc out (move_text notes old by) more
    ∙ sym (ap (λ (l : List TimelineMove). out ++ order_text notes old l) rest) ∙ before
