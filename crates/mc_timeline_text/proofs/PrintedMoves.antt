-- The printed lines of an explanation, list by list.
use Rattle.std.proofs.Common.{◌≡◌, ℕ, List, ◌++◌, map, append_assoc}
use Rattle.std.proofs.{lemmas.Grind.flat_map-append, lemmas.List.Folds.flat_map-map}
use Rattle.std.specs.List.{flat_map}
use Rattle.mc_history.specs.PrintedHistory.{line_text, start_words}
use Rattle.mc_linearize.specs.declared.explanation.TimelineMove.{TimelineMove}
use Rattle.mc_timeline_text.specs.TimelineTexts.{client_move_words, claim_text}

-- the items at the start, then the moves
pub claim_parts : (front : List ℕ) (start : List (List ℕ × ℕ)) (moves : List TimelineMove)
    → (front ++ flat_map (λ s. line_text (start_words s)) start) ++ flat_map (λ m. line_text (client_move_words m)) moves
    ≡ front ++ claim_text (record { start = start; moves = moves })
claim_parts front start moves =
    rw (
      flat_map-append line_text (map start_words start) (map client_move_words moves),
      flat_map-map line_text start_words start,
      flat_map-map line_text client_move_words moves,
    )
    (append_assoc front _ _)
