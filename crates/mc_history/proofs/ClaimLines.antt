-- The lines of a claim: what follows `explain` is what is read of it, line by line.
use Rattle.std.proofs.Common.{◌≡◌, ◌≢◌, ℕ, true, false, Option, Some, None, inl, inr, List, [], ◌∷◌, ◌++◌, codes, map}
use Rattle.std.proofs.Common.{refl, sym, ap, ap₂, subst, ◌∙◌, append_assoc}
use Rattle.std.proofs.lemmas.Bool.{false_from_ne_true}
use Rattle.std.specs.{List.list_any, Str.bytes_eq}
use Rattle.mc_protocol.specs.{Lines.Word, Lines.Words, Spelling.SpellEach}
use Rattle.mc_protocol.proofs.{ActorWords.actor_is_not_end, FirstItems.head_is, FirstItems.rest_is}
use Rattle.mc_history.specs.HistoryText.{SpellsStart, SpellsMove, SpellsTail, end_line, explain_line}
use Rattle.mc_history.specs.Parts.{moves, starts, AfterMoves, AfterStarts, SpellsMoves, SpellsStarts}
use Rattle.mc_history.specs.{declared.explanation.Move.Move, Claim.Claim, Distinct.IsAbsent, Distinct.AreDistinct}
use Rattle.mc_history.proofs.Arrow.{bytes_same}
use Rattle.mc_history.proofs.LineLemmas.{one_start, one_move, actor_is_not_start, start_is_not_end, end_is_not_explain}
use Rattle.mc_history.proofs.Reading.{IsReadable, Along, after, after_listed, along_freely, series_of, parts_of, one_series}

-- ---- keys

abbrev Items : Type 0
Items = List (List ℕ × ℕ)

abbrev keys_in : Items → List Word
keys_in items = map (λ k. k.0) items

-- the key after an item is not among those after it
absent_later : (key : Word) (items : Items) (item : List ℕ × ℕ) (others : Items) → IsAbsent key (keys_in (items ++ item ∷ others)) → key ≢ item.0
absent_later key [] item others h = h.0
absent_later key (first ∷ items) item others h = absent_later key items item others h.1

-- where no two keys are equal, none before an item has its key
pub new_from_distinct : (items : Items) (item : List ℕ × ℕ) (others : Items) → AreDistinct (keys_in (items ++ item ∷ others))
    → list_any (bytes_eq item.0) (keys_in items) ≡ false
new_from_distinct [] item others h = refl
new_from_distinct (first ∷ items) item others h =
    rw (
      false_from_ne_true (bytes_eq item.0 first.0) (λ e. absent_later first.0 items item others h.0 (sym (bytes_same item.0 first.0 e))),
      new_from_distinct items item others h.1,
    ) refl

-- so each item is at a new key
pub along_starts : (begun items : Items) → AreDistinct (keys_in (begun ++ items)) → Along starts begun items
along_starts begun [] distinct = tt
along_starts begun (item ∷ items) distinct =
    let moved : AreDistinct (keys_in ((begun ++ item ∷ []) ++ items)) = rw append_assoc distinct in
    (new_from_distinct begun item items distinct, along_starts (begun ++ item ∷ []) items moved)

-- ---- line by line

pub move_is_not_end : (line : Words) (move : Move) → SpellsMove line move → line ≡ end_line → ⊥
move_is_not_end line move (number, e, _) is = actor_is_not_end move.actor _ [] (sym e ∙ is)

pub moves_are_readable : IsReadable moves AfterMoves
moves_are_readable = record {
  one = one_move;
  apart = λ order items line lines move spelled h. move_is_not_end line move spelled (head_is _ _ _ _ h.1);
  goes_on = λ order items h. let e = h.1 in cc;
}

-- moves begin with no `start`
pub no_moves_at_start : (line others : Words) (lines : List Words) (order : List Move) → line ≡ codes "start" ∷ others
    → SpellsMoves (line ∷ lines) order → ⊥
no_moves_at_start line others lines order e (inl h) = start_is_not_end others [] (sym e ∙ head_is _ _ _ _ h.1)
no_moves_at_start line others lines order e (inr (move, (number, d, _), _, _)) = actor_is_not_start move.actor _ others (sym d ∙ e)

pub starts_are_readable : IsReadable starts AfterStarts
starts_are_readable = record {
  one = one_start;
  apart = λ claim items line lines start spelled h. no_moves_at_start line _ lines claim.order spelled.1 h.2;
  goes_on = λ claim items h. let e = h.2.1 in cc;
}

-- ---- all lines after `explain`

pub starts_of_tail : (line : Words) (lines : List Words) (claim : Claim) → SpellsTail (line ∷ lines) (Some claim) → SpellsStarts lines claim
starts_of_tail line lines claim (first, others, e, spelled, ordered, distinct) =
    let items = after_listed _ _ [] claim.start in
    let order = series_of moves (AfterMoves claim.order) [] others (end_line ∷ []) claim.order ordered (along_freely SpellsMove [] claim.order)
    (sym (after_listed _ _ [] claim.order), refl) in
    rw (rest_is _ _ _ _ e, append_assoc first others (end_line ∷ []))
    (series_of starts (AfterStarts claim) [] first (others ++ end_line ∷ []) claim.start spelled (along_starts [] claim.start distinct)
    (sym items, subst (λ all. AreDistinct (keys_in all)) (sym items) distinct, order))

pub tail_of_starts : (line : Words) (lines : List Words) (claim : Claim) → line ≡ explain_line → SpellsStarts lines claim
    → SpellsTail (line ∷ lines) (Some claim)
tail_of_starts line lines claim e h =
    let p = parts_of starts (AfterStarts claim) [] lines h in
    let m = parts_of moves (AfterMoves claim.order) [] p.tail p.followed.2 in (
      p.their,
      m.their,
      ap (λ l. l ∷ lines) e
          ∙ ap (λ ls. explain_line ∷ ls) (p.lines_are ∙ ap (λ ls. p.their ++ ls) (m.lines_are ∙ ap (λ ls. m.their ++ ls) m.followed.1)
          ∙ sym (append_assoc p.their m.their (end_line ∷ []))),
      subst (SpellEach SpellsStart p.their) (sym (p.followed.0 ∙ after_listed _ _ [] p.items)) p.each,
      subst (SpellEach SpellsMove m.their) (sym (m.followed.0 ∙ after_listed _ _ [] m.items)) m.each,
      subst (λ all. AreDistinct (keys_in all)) (sym p.followed.0) p.followed.1,
    )

-- nothing but an explanation follows `explain`
pub starts_after_explain : (line : Words) (lines : List Words) (claim : Option Claim) → line ≡ explain_line
    → SpellsTail (line ∷ lines) claim → ((c : Claim) → SpellsStarts lines c → ⊥) → ⊥
starts_after_explain line lines None e h none = end_is_not_explain [] [] (sym (head_is line end_line lines [] h) ∙ e)
starts_after_explain line lines (Some claim) e h none = none claim (starts_of_tail line lines claim h)

same_claim : (c d : Claim) → c.start ≡ d.start → c.order ≡ d.order → c ≡ d
same_claim c d e f = let claim : Items → List Move → Claim = λ x y. record { start = x; order = y } in ap₂ claim e f

-- one claim at most follows the requests
pub one_tail : (lines : List Words) (c d : Option Claim) → SpellsTail lines c → SpellsTail lines d → c ≡ d
one_tail lines None None f g = refl
one_tail lines None (Some d) f (first, others, e, _, _, _) = absurd (end_is_not_explain [] [] (head_is _ _ _ _ (sym f ∙ e)))
one_tail lines (Some c) None (first, others, e, _, _, _) g = absurd (end_is_not_explain [] [] (head_is _ _ _ _ (sym g ∙ e)))
one_tail [] (Some c) (Some d) (first, others, e, _, _, _) g = absurd (cc)
one_tail (line ∷ lines) (Some c) (Some d) f g =
    let (items, rest, x, y) = one_series starts_are_readable c d [] lines (starts_of_tail line lines c f) (starts_of_tail line lines d g) in
    let (order, _, m, n) = one_series moves_are_readable c.order d.order [] rest x.2 y.2 in
    ap (λ claim. Some claim) (same_claim c d (x.0 ∙ sym y.0) (m.0 ∙ sym n.0))
