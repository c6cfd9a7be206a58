-- What is printed of the notes of a timeline. Only private contracts cite these.
use Rattle.std.specs.Prelude.{◌<◌, ◌^◌, ℕ, List}
use Rattle.std.specs.List.{flat_map}
use Rattle.mc_history.specs.{PrintedHistory.line_text, PrintedParts.MayBeNoted, PrintedParts.NoteSpellsItself}
use Rattle.mc_timeline.specs.{Timelines.ClientNote, TimelineText.client_note_words}

-- the client's number fits, and the words that are printed of the note spell it, if it may stand in a history
abbrev pub MaySpellItself : ClientNote → Type 0
MaySpellItself noted = (noted.0 < 2 ^ 64) × (MayBeNoted noted.1 → NoteSpellsItself noted.1)

-- the lines of the notes
abbrev pub notes_text : List ClientNote → List ℕ
notes_text notes = flat_map (λ noted. line_text (client_note_words noted)) notes
