-- The timeline that has the notes of a history.
use Rattle.std.specs.Prelude.{◌≡◌, ℕ, true, List, map}
use Rattle.mc_protocol.specs.declared.actor.Actor.{Actor}
use Rattle.mc_protocol.specs.declared.actor.Actor.TheVariants as actor
use Rattle.mc_model.specs.Notes.{Noted, is_record}
use Rattle.mc_timeline.specs.{Timelines.ClientNote, Rules.IsTimeline}

-- P, A and B are the clients 0, 1 and 2
abbrev pub client_of : Actor → ℕ
client_of actor.P = 0
client_of actor.A = 1
client_of actor.B = 2

-- the same notes, in the same order, each with the client that its section is
abbrev pub of_clients : List Noted → List ClientNote
of_clients notes = map (λ noted. (client_of noted.0, noted.1)) notes

-- the notes of a history are a timeline
abbrev pub HistoriesAreTimelines : Type 0
HistoriesAreTimelines = (notes : List Noted) → is_record notes ≡ true → IsTimeline (of_clients notes)
