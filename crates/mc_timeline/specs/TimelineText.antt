-- The text of a timeline.
use Rattle.std.specs.Prelude.{◌≡◌, ℕ, List, [], ◌∷◌, ◌++◌, map, codes, decimal}
use Rattle.mc_protocol.specs.declared.lines.Separator.TheVariants.{Space}
use Rattle.mc_protocol.specs.{Spelling.SpellEach, Lines.words_of_text, Lines.Words}
use Rattle.mc_model.specs.declared.note.Note.TheVariants as note
use Rattle.mc_words.specs.Words.{request_words, reply_words}
use Rattle.mc_history.specs.{HistoryText.SpellsNoted, HistoryText.header, HistoryText.end_line, PrintedHistory.lines_text}
use Rattle.mc_timeline.specs.{Timelines.ClientNote, Rules.IsTimeline}

-- the first line
abbrev pub timeline_header : Words
timeline_header = header (codes "3")

-- a line of a note: the number of its client without a leading zero, and `begin` with a request or `reply` with a reply
abbrev pub SpellsClientNote : Words → ClientNote → Type 0
SpellsClientNote line noted = (words : Words) × (line ≡ decimal noted.0 ∷ words) × SpellsNoted words noted.1

-- the lines of the text that count are the header, one for each note, and `end`; the notes are a timeline
pub record SpellsTimeline (text : List ℕ) (notes : List ClientNote) : Type 0 where
  pub noted : List Words
  pub lines : words_of_text Space text ≡ timeline_header ∷ noted ++ end_line ∷ []
  pub spelled : SpellEach SpellsClientNote noted notes
  pub timeline : IsTimeline notes

-- ---- what is printed

abbrev pub client_note_words : ClientNote → Words
client_note_words (client, note.Begin request) = decimal client ∷ codes "begin" ∷ request_words request
client_note_words (client, note.Reply reply) = decimal client ∷ codes "reply" ∷ reply_words reply

abbrev pub timeline_text : List ClientNote → List ℕ
timeline_text notes = lines_text (timeline_header ∷ map client_note_words notes ++ end_line ∷ [])
