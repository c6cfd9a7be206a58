-- What private contracts say of the places from which requests are looked for.
use Rattle.std.specs.Prelude.{ℕ, Bool, false, eqb, get_or, List}
use Rattle.mc_model.specs.declared.note.Note.TheVariants as note
use Rattle.mc_timeline.specs.Timelines.{ClientNote}
use Rattle.mc_timeline_why.specs.TimelineWhyText.{Places}

-- the place that the list says of each client, and 0 of others
abbrev pub places_in : List ℕ → Places
places_in places client = get_or places client 0

-- a request of the client begins
abbrev pub begins_for : ℕ → ClientNote → Bool
begins_for client (who, note.Begin request) = eqb who client
begins_for client (who, note.Reply reply) = false
