-- The front of a timeline: its first notes, and which of its requests have no reply there.
use Rattle.std.specs.Prelude.{ℕ, ◌+◌, Bool, true, false, not, ◌&&◌, eqb, List, [], ◌∷◌, ◌++◌, bytes_eq, take}
use Rattle.std.specs.List.{list_any}
use Rattle.mc_model.specs.declared.note.Note.TheVariants as note
use Rattle.mc_timeline.specs.Timelines.{ClientNote, restricted}

-- of the first n notes, those of the requests on the key
abbrev pub front : List ℕ → ℕ → List ClientNote → List ClientNote
front key n notes = restricted key (take n notes)

-- the note is a reply to the client
abbrev pub is_reply_to : ℕ → ClientNote → Bool
is_reply_to client (who, note.Begin request) = false
is_reply_to client (who, note.Reply reply) = eqb who client

-- the note is the begin of a request on the key, which none of the later notes answers
abbrev pub is_open : List ℕ → ClientNote → List ClientNote → Bool
is_open key (client, note.Begin request) later = bytes_eq request.key key && not (list_any (is_reply_to client) later)
is_open key (client, note.Reply reply) later = false

abbrev pub if_so : Bool → ℕ → List ℕ
if_so true place = place ∷ []
if_so false place = []

-- the places of these notes, of which the first has this place, at which requests on the key began that none of the notes answers
abbrev pub open_from : List ℕ → ℕ → List ClientNote → List ℕ
open_from key place [] = []
open_from key place (noted ∷ notes) = if_so (is_open key noted notes) place ++ open_from key (place + 1) notes

-- the requests on the key that overlap a place: they began before it and weren't answered before it. These are the places at which
-- they began
abbrev pub overlapping : List ℕ → ℕ → List ClientNote → List ℕ
overlapping key place notes = open_from key 0 (take place notes)
