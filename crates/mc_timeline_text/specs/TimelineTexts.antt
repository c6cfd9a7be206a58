-- The text of a timeline, with or without an explanation.
use Rattle.std.specs.Prelude.{◌≡◌, ◌<◌, ℕ, Option, Some, None, List, [], ◌∷◌, ◌++◌, map, decimal}
use Rattle.mc_protocol.specs.{declared.lines.Separator.TheVariants.Space, Decimals.SpellsNumber, Decimals.MAX_64}
use Rattle.mc_protocol.specs.{Spelling.SpellEach, Lines.words_of_text, Lines.Word, Lines.Words}
use Rattle.mc_history.specs.{Distinct.AreDistinct}
use Rattle.mc_history.specs.HistoryText.{SpellsStart, marks_of, explain_line, end_line}
use Rattle.mc_history.specs.PrintedHistory.{lines_text, start_words}
use Rattle.mc_timeline.specs.{declared.limits.TheConstants.CLIENTS_LIMIT, TimelineText.SpellsClientNote, TimelineText.timeline_header}
use Rattle.mc_timeline.specs.{Timelines.ClientNote, Rules.IsTimeline}
use Rattle.mc_linearize.specs.{declared.explanation.TimelineMove.TimelineMove, Claims.TimelineClaim}

-- notes, and what is claimed to explain them, if anything is
abbrev pub Spelled : Type 0
Spelled = List ClientNote × Option TimelineClaim

-- a move: the number of the client without a leading zero, the number of the version that is made, and the marks of the choice
abbrev pub SpellsClientMove : Words → TimelineMove → Type 0
SpellsClientMove line move =
    (number : Word) × (line ≡ decimal move.client ∷ number ∷ marks_of move.choice)
    × SpellsNumber MAX_64 number move.number × (move.client < CLIENTS_LIMIT)

-- what follows the notes: `end`; or `explain`, the items at the start, the moves, and `end`
abbrev pub SpellsTimelineTail : List Words → Option TimelineClaim → Type 0
SpellsTimelineTail lines None = lines ≡ end_line ∷ []
SpellsTimelineTail lines (Some claim) =
    (starts : List Words) × (moves : List Words) × (lines ≡ explain_line ∷ starts ++ moves ++ end_line ∷ [])
    × SpellEach SpellsStart starts claim.start × SpellEach SpellsClientMove moves claim.moves
    × AreDistinct (map (λ k. k.0) claim.start)

-- the lines of the text that count are the header, one for each note, and what follows; the notes are a timeline
pub record SpellsTimelineText (text : List ℕ) (notes : List ClientNote) (claim : Option TimelineClaim) : Type 0 where
  pub noted : List Words
  pub tail : List Words
  pub lines : words_of_text Space text ≡ timeline_header ∷ noted ++ tail
  pub spelled : SpellEach SpellsClientNote noted notes
  pub timeline : IsTimeline notes
  pub followed : SpellsTimelineTail tail claim

-- a text spells at most one timeline, with at most one claim
abbrev pub SpellsOneTimeline : Type 0
SpellsOneTimeline =
    (text : List ℕ) (s t : Spelled) → SpellsTimelineText text s.0 s.1 → SpellsTimelineText text t.0 t.1 → (s.0 ≡ t.0) × (s.1 ≡ t.1)

-- ---- what is printed

abbrev pub client_move_words : TimelineMove → Words
client_move_words move = decimal move.client ∷ decimal move.number ∷ marks_of move.choice

-- the items at the start, then the moves
abbrev pub claim_text : TimelineClaim → List ℕ
claim_text claim = lines_text (map start_words claim.start ++ map client_move_words claim.moves)
