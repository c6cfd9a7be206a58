-- What the lines that are left of a timeline's text spell: of a part what `TimelineTexts.antt` says of the whole. Only private
-- contracts cite these.
use Rattle.std.specs.Prelude.{◌≡◌, ◌<◌, ℕ, None, List, [], ◌∷◌, map}
use Rattle.mc_protocol.specs.Lines.{Words}
use Rattle.mc_history.specs.{Distinct.AreDistinct, HistoryText.end_line, Parts.starts}
use Rattle.mc_history.specs.Series.{Form, Series, listed}
use Rattle.mc_timeline.specs.{declared.limits.TheConstants.CLIENTS_LIMIT, TimelineText.SpellsClientNote}
use Rattle.mc_timeline.specs.{Timelines.ClientNote, Rules.IsTimeline, Rules.fault_of}
use Rattle.mc_linearize.specs.{declared.explanation.TimelineMove.TimelineMove, Claims.TimelineClaim}
use Rattle.mc_timeline_text.specs.TimelineTexts.{Spelled, SpellsClientMove, SpellsTimelineTail}

-- ---- notes: none has a fault after those before it

-- a line of a note whose client has a small number, as each note of a timeline has
abbrev pub SpellsSmall : Words → ClientNote → Type 0
SpellsSmall line noted = SpellsClientNote line noted × (noted.0 < CLIENTS_LIMIT)

abbrev pub notes : Form (List ClientNote) ClientNote
notes = listed SpellsSmall (λ noted next. fault_of noted next ≡ None)

-- after them: they are the timeline, and a claim may follow
abbrev pub AfterNotes : Spelled → List ClientNote → List Words → Type 0
AfterNotes s noted lines = (s.0 ≡ noted) × IsTimeline s.0 × SpellsTimelineTail lines s.1

abbrev pub SpellsNotes : List Words → Spelled → Type 0
SpellsNotes lines s = Series notes (AfterNotes s) [] lines

-- ---- the moves of a claim, and `end`

abbrev pub moves : Form (List TimelineMove) TimelineMove
moves = listed SpellsClientMove (λ _ _. Unit {0})

abbrev pub AfterMoves : List TimelineMove → List TimelineMove → List Words → Type 0
AfterMoves all made lines = (all ≡ made) × (lines ≡ end_line ∷ [])

abbrev pub SpellsMoves : List Words → List TimelineMove → Type 0
SpellsMoves lines all = Series moves (AfterMoves all) [] lines

-- ---- the items at the start, and the moves

abbrev pub AfterStarts : TimelineClaim → List (List ℕ × ℕ) → List Words → Type 0
AfterStarts claim items lines = (claim.start ≡ items) × AreDistinct (map (λ k. k.0) items) × SpellsMoves lines claim.moves

abbrev pub SpellsStarts : List Words → TimelineClaim → Type 0
SpellsStarts lines claim = Series starts (AfterStarts claim) [] lines
