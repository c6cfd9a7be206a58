-- What stands after a verdict where the line asks why nothing explains a history.
use Rattle.std.specs.Prelude.{◌≡◌, ℕ, ◌+◌, Bool, true, false, Option, Some, None, List, [], drop, filter, map, min, slice_index_or}
use Rattle.mc_protocol.specs.Lines.{Line, begins_with, counted, lines_of_text, words_of}
use Rattle.mc_protocol.specs.{Decimals.MAX_64, Words.actor_word, declared.actor.Actor.Actor, declared.lines.Separator.TheVariants.Space}
use Rattle.mc_model.specs.{Notes.History, Notes.Noted, Sections.Sections}
use Rattle.mc_explain.specs.declared.verdict.Verdict.{Verdict}
use Rattle.mc_explain.specs.declared.verdict.Verdict.TheVariants as verdict
use Rattle.mc_why.specs.{Causes.IsFoundOf, Causes.place_of, WhyText.request_place, WhyText.why_text, declared.cause.Finding.Finding}
use Rattle.mc_answers.specs.declared.why.Counted.{Counted}
use Rattle.mc_answers.specs.declared.why.Counted.TheVariants as counted_in

-- ---- the line of a place

-- the line is one of the section, whose word is its first; each line is, where no section is named
abbrev pub is_of : Option Actor → List ℕ → Bool
is_of None line = true
is_of (Some section) line = begins_with (actor_word section) (words_of Space line)

-- of these lines, those of the section: the number of the one at this index, or 0 where there is none
abbrev pub number_at : Option Actor → ℕ → List Line → ℕ
number_at section index lines = slice_index_or (map (λ line. line.number) (filter (λ line. is_of section line.text) lines)) index 0

abbrev pub request_line : List Line → Actor × ℕ → ℕ
request_line lines (section, index) = number_at (Some section) index lines

-- among the lines of a history's text: that of what was noted at a place, which is the first one after the header for the first place;
-- or, where no notes are kept, that of the request
abbrev pub line_among : List Line → Sections → Option (List Noted) → ℕ → ℕ
line_among lines s (Some notes) place = number_at None place (drop 1 lines)
line_among lines s None place = request_line lines (request_place s place)

-- the line at an index among those after the first one, which is the header
abbrev pub line_after_header : List ℕ → ℕ → ℕ
line_after_header text index = number_at None index (drop 1 (counted (lines_of_text Space text)))

-- the line of a place of the history in the text that spells it
abbrev pub line_in_text : List ℕ → History → ℕ → ℕ
line_in_text text h place = line_among (counted (lines_of_text Space text)) h.sections h.notes place

-- that of a note in the text that is printed of it: the header is the first line, and a line for each note follows
abbrev pub printed_line : ℕ → ℕ
printed_line place = min (place + 2) MAX_64

-- the line of the step at an index, in a text that has `before` lines before those of the list
abbrev pub step_line : ℕ → List ℕ → ℕ → ℕ
step_line before list index = min (before + line_after_header list index) MAX_64

abbrev pub line_of : Counted → History → ℕ → ℕ
line_of (counted_in.Text text) h = line_in_text text.now h
line_of counted_in.Printed h = printed_line
line_of (counted_in.Steps before list makers) h = λ place. step_line before list.now (slice_index_or makers.now place 0)

-- ---- what is written

-- what stands after the verdict on a history: where that is asked for and nothing explains it, what is found of it, with a line of its
-- place; else nothing
abbrev pub IsWhyBy : Bool → (ℕ → ℕ → Type 0) → History → Verdict → List ℕ → Type 0
IsWhyBy false is_line h found text = text ≡ []
IsWhyBy true is_line h (verdict.Explained claim) text = text ≡ []
IsWhyBy true is_line h verdict.Undecided text = text ≡ []
IsWhyBy true is_line h verdict.Unexplained text =
    (finding : Finding) × (line : ℕ) × is_line (place_of finding) line × IsFoundOf h finding × (text ≡ why_text line h finding)

-- the same, where this is the line of each place
abbrev pub IsWhy : Bool → (ℕ → ℕ) → History → Verdict → List ℕ → Type 0
IsWhy why line h found text = IsWhyBy why (λ place number. number ≡ line place) h found text
