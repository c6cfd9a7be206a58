-- The lines after the notes of a timeline: what they spell is what is read of them, line by line.
use Rattle.std.proofs.Common.{◌≡◌, ◌<◌, ◌⊎◌, ℕ, Option, Some, None, inl, inr, List, [], ◌∷◌, ◌++◌, codes, decimal, map}
use Rattle.std.proofs.Common.{refl, sym, ap, ap₂, subst, ◌∙◌, append_assoc}
use Rattle.mc_protocol.specs.{Lines.Words, Spelling.SpellEach}
use Rattle.mc_protocol.proofs.FirstItems.{head_is, rest_is}
use Rattle.mc_history.specs.{Distinct.AreDistinct, HistoryText.SpellsStart, HistoryText.end_line, HistoryText.explain_line, Parts.starts}
use Rattle.mc_history.proofs.Reading.{IsReadable, after_listed, along_freely, series_of, parts_of, one_series}
use Rattle.mc_history.proofs.{ClaimLines.along_starts, LineLemmas.one_start, LineLemmas.start_is_not_end, LineLemmas.end_is_not_explain}
use Rattle.mc_timeline.specs.{declared.limits.TheConstants.CLIENTS_LIMIT, Timelines.ClientNote}
use Rattle.mc_linearize.specs.{declared.explanation.TimelineMove.TimelineMove, Claims.TimelineClaim}
use Rattle.mc_timeline_text.specs.TimelineTexts.{SpellsClientMove, SpellsTimelineTail}
use Rattle.mc_timeline_text.specs.TimelineParts.{moves, AfterMoves, AfterStarts, SpellsMoves, SpellsSmall, SpellsStarts}
use Rattle.mc_timeline_text.proofs.ClientLines.{client_is_not, one_client_move}

abbrev Items : Type 0
Items = List (List ℕ × ℕ)

-- ---- line by line

pub move_is_not_end : (line : Words) (move : TimelineMove) → SpellsClientMove line move → line ≡ end_line → ⊥
move_is_not_end line move (number, e, spelled, small) is = client_is_not move.client (codes "end") small refl (head_is _ _ _ _ (sym e ∙ is))

pub moves_are_readable : IsReadable moves AfterMoves
moves_are_readable = record {
  one = one_client_move;
  apart = λ all made line lines move spelled h. move_is_not_end line move spelled (head_is _ _ _ _ h.1);
  goes_on = λ all made h. let e = h.1 in cc;
}

-- moves begin with no `start`
pub no_moves_at_start : (line others : Words) (lines : List Words) (all : List TimelineMove) → line ≡ codes "start" ∷ others
    → SpellsMoves (line ∷ lines) all → ⊥
no_moves_at_start line others lines all e (inl h) = start_is_not_end others [] (sym e ∙ head_is _ _ _ _ h.1)
no_moves_at_start line others lines all e (inr (move, (number, d, spelled, small), may, h)) =
    client_is_not move.client (codes "start") small refl (head_is _ _ _ _ (sym d ∙ e))

pub starts_are_readable : IsReadable starts AfterStarts
starts_are_readable = record {
  one = one_start;
  apart = λ claim items line lines start spelled h. no_moves_at_start line _ lines claim.moves spelled.1 h.2;
  goes_on = λ claim items h. let e = h.2.1 in cc;
}

-- ---- all lines after `explain`

pub starts_of_tail : (line : Words) (lines : List Words) (claim : TimelineClaim) → SpellsTimelineTail (line ∷ lines) (Some claim)
    → SpellsStarts lines claim
starts_of_tail line lines claim (first, others, e, spelled, ordered, distinct) =
    let items = after_listed _ _ [] claim.start in
    let order = series_of moves (AfterMoves claim.moves) [] others (end_line ∷ []) claim.moves ordered (along_freely SpellsClientMove [] claim.moves)
    (sym (after_listed _ _ [] claim.moves), refl) in
    rw (rest_is _ _ _ _ e, append_assoc first others (end_line ∷ []))
    (series_of starts (AfterStarts claim) [] first (others ++ end_line ∷ []) claim.start spelled (along_starts [] claim.start distinct)
    (sym items, subst (λ (all : Items). AreDistinct (map (λ k. k.0) all)) (sym items) distinct, order))

pub tail_of_starts : (line : Words) (lines : List Words) (claim : TimelineClaim) → line ≡ explain_line → SpellsStarts lines claim
    → SpellsTimelineTail (line ∷ lines) (Some claim)
tail_of_starts line lines claim e h =
    let p = parts_of starts (AfterStarts claim) [] lines h in
    let m = parts_of moves (AfterMoves claim.moves) [] p.tail p.followed.2 in (
      p.their,
      m.their,
      ap (λ l. l ∷ lines) e
          ∙ ap (λ ls. explain_line ∷ ls) (p.lines_are ∙ ap (λ ls. p.their ++ ls) (m.lines_are ∙ ap (λ ls. m.their ++ ls) m.followed.1)
          ∙ sym (append_assoc p.their m.their (end_line ∷ []))),
      subst (SpellEach SpellsStart p.their) (sym (p.followed.0 ∙ after_listed _ _ [] p.items)) p.each,
      subst (SpellEach SpellsClientMove m.their) (sym (m.followed.0 ∙ after_listed _ _ [] m.items)) m.each,
      subst (λ (all : Items). AreDistinct (map (λ k. k.0) all)) (sym p.followed.0) p.followed.1,
    )

-- nothing but an explanation follows `explain`
pub starts_after_explain : (line : Words) (lines : List Words) (claim : Option TimelineClaim) → line ≡ explain_line
    → SpellsTimelineTail (line ∷ lines) claim → ((c : TimelineClaim) → SpellsStarts lines c → ⊥) → ⊥
starts_after_explain line lines None e h none = end_is_not_explain [] [] (sym (head_is line end_line lines [] h) ∙ e)
starts_after_explain line lines (Some claim) e h none = none claim (starts_of_tail line lines claim h)

same_claim : (c d : TimelineClaim) → c.start ≡ d.start → c.moves ≡ d.moves → c ≡ d
same_claim c d e f = let claim : Items → List TimelineMove → TimelineClaim = λ x y. record { start = x; moves = y } in ap₂ claim e f

-- one claim at most follows the notes
pub one_tail : (lines : List Words) (c d : Option TimelineClaim) → SpellsTimelineTail lines c → SpellsTimelineTail lines d → c ≡ d
one_tail lines None None f g = refl
one_tail lines None (Some d) f (first, others, e, _, _, _) = absurd (end_is_not_explain [] [] (head_is _ _ _ _ (sym f ∙ e)))
one_tail lines (Some c) None (first, others, e, _, _, _) g = absurd (end_is_not_explain [] [] (head_is _ _ _ _ (sym g ∙ e)))
one_tail [] (Some c) (Some d) (first, others, e, _, _, _) g = absurd (cc)
one_tail (line ∷ lines) (Some c) (Some d) f g =
    let (items, rest, x, y) = one_series starts_are_readable c d [] lines (starts_of_tail line lines c f) (starts_of_tail line lines d g) in
    let (made, _, m, n) = one_series moves_are_readable c.moves d.moves [] rest x.2 y.2 in
    ap (λ claim. Some claim) (same_claim c d (x.0 ∙ sym y.0) (m.0 ∙ sym n.0))

-- what follows the notes doesn't begin with a client
pub no_tail_at_client : (n : ℕ) (others line : Words) (lines : List Words) (claim : Option TimelineClaim) → n < CLIENTS_LIMIT
    → line ≡ decimal n ∷ others → SpellsTimelineTail (line ∷ lines) claim → ⊥
no_tail_at_client n others line lines None small e h =
    client_is_not n (codes "end") small refl (head_is _ _ _ _ (sym e ∙ head_is line end_line lines [] h))
no_tail_at_client n others line lines (Some claim) small e (first, moves, d, _, _, _) =
    client_is_not n (codes "explain") small refl (head_is _ _ _ _ (sym e ∙ head_is _ _ _ _ d))

-- it begins with `end` or `explain`
pub no_tail_at : (line : Words) (lines : List Words) (claim : Option TimelineClaim) → (line ≡ end_line → ⊥) → (line ≡ explain_line → ⊥)
    → SpellsTimelineTail (line ∷ lines) claim → ⊥
no_tail_at line lines None no_end no_explain h = no_end (head_is line end_line lines [] h)
no_tail_at line lines (Some claim) no_end no_explain (first, moves, d, _, _, _) = no_explain (head_is _ _ _ _ d)

-- and that doesn't begin a note
pub note_is_not_last : (line : Words) (next : ClientNote) → SpellsSmall line next → (line ≡ end_line) ⊎ (line ≡ explain_line) → ⊥
note_is_not_last line next ((words, e, spelled), small) (inl is) = client_is_not next.0 (codes "end") small refl (head_is _ _ _ _ (sym e ∙ is))
note_is_not_last line next ((words, e, spelled), small) (inr is) = client_is_not next.0 (codes "explain") small refl (head_is _ _ _ _ (sym e ∙ is))

pub is_explain : (line : Words) → (line ≡ end_line) ⊎ (line ≡ explain_line) → (line ≡ end_line → ⊥) → line ≡ explain_line
is_explain line (inl e) no_end = absurd (no_end e)
is_explain line (inr e) no_end = e

-- something follows the notes
pub no_tail_of_nothing : (claim : Option TimelineClaim) → SpellsTimelineTail [] claim → ⊥
no_tail_of_nothing None h = cc
no_tail_of_nothing (Some claim) (first, moves, d, f, g, k) = cc
