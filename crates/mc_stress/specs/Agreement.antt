-- A round: what was noted of its clients is what their lanes recorded.
use Rattle.std.specs.Prelude.{◌≡◌, ℕ, true, eqb, Option, Some, None, is_some, List, map, filter}
use Rattle.std.specs.List.{All, list_all, list_any}
use Rattle.mc_protocol.specs.declared.fault.Fault.{Fault}
use Rattle.mc_model.specs.declared.sent.Sent.{Sent}
use Rattle.mc_lane.specs.Lanes.{LaneRecord}
use Rattle.mc_recorded.specs.Recorded.{IsRecordedBy}
use Rattle.mc_timeline.specs.{Rules.IsTimeline, Rules.sent_of, Timelines.ClientNote, Timelines.operations_of}
use Rattle.mc_stress.specs.declared.played.Played.{Played}

-- the requests of a client with their replies, in their order
abbrev pub sent_by : ℕ → List ClientNote → List Sent
sent_by client notes = map sent_of (filter (λ x. eqb x.client client) (operations_of notes))

-- a client that no fault ended has all replies
abbrev pub IsOver : List Sent → Option Fault → Type 0
IsOver requests None = list_all (λ s. is_some s.reply) requests ≡ true
IsOver requests (Some f) = Unit {0}

-- those, and the fault that ended the client, are what its lane recorded
abbrev pub IsRecorded : List ClientNote → Played LaneRecord → Type 0
IsRecorded notes p = IsRecordedBy (sent_by p.client notes) p.ended p.lane × IsOver (sent_by p.client notes) p.ended

-- the note is of one of the clients
abbrev pub IsOfOne : List (Played LaneRecord) → ClientNote → Type 0
IsOfOne played noted = list_any (λ p. eqb p.client noted.0) played ≡ true

-- The notes are a timeline, each is of one of these clients, and what was noted of each client is what its lane recorded.
pub record Agree (notes : List ClientNote) (played : List (Played LaneRecord)) : Type 0 where
  pub timeline : IsTimeline notes
  pub clients : All (IsOfOne played) notes
  pub recorded : All (IsRecorded notes) played
