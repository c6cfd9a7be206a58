-- What explains a history explains the timeline that has the same notes, and the other way round.
use Rattle.std.specs.Prelude.{◌≡◌, ◌↔◌, true, Option, Some, None, List, map}
use Rattle.mc_model.specs.Notes.{History, Noted, is_record, with_notes}
use Rattle.mc_history.specs.{declared.explanation.Move.Move, Claim.Claim}
use Rattle.mc_claims.specs.Explains.{Explains}
use Rattle.mc_timeline.specs.{Timelines.ClientNote, Timelines.operations_of, Explanations.IsExplained}
use Rattle.mc_linearize.specs.{declared.explanation.TimelineMove.TimelineMove, Claims.TimelineClaim, Claims.ExplainsTimeline}
use Rattle.mc_timeline_of.specs.SameNotes.{client_of, of_clients}

-- the move of a section is that of the client that it is
abbrev pub by_client : Move → TimelineMove
by_client move = record { client = client_of move.actor; choice = move.choice; number = move.number }

-- what a claim of a history claims of the timeline
abbrev pub by_clients : Claim → TimelineClaim
by_clients claim = record { start = claim.start; moves = map by_client claim.order }

-- a claim explains a history exactly if it explains the timeline of the same notes
abbrev pub ExplanationsAreTheSame : Type 0
ExplanationsAreTheSame =
    (notes : List Noted) (claim : Claim) → is_record notes ≡ true
    → Explains (with_notes notes) claim ↔ ExplainsTimeline (of_clients notes) (by_clients claim)

-- a claim explains the history
abbrev pub HasExplanation : History → Type 0
HasExplanation h = (claim : Claim) × Explains h claim

-- a history has an explanation exactly if the timeline of the same notes has one
abbrev pub ExplainedAlike : Type 0
ExplainedAlike =
    (notes : List Noted) → is_record notes ≡ true → HasExplanation (with_notes notes) ↔ IsExplained (operations_of (of_clients notes))

-- the history has an explanation exactly if its timeline, where it has one, has one
abbrev pub AreExplainedAlike : History → Option (List ClientNote) → Type 0
AreExplainedAlike h None = Unit {0}
AreExplainedAlike h (Some notes) = HasExplanation h ↔ IsExplained (operations_of notes)
