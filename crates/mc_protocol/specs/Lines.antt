-- How a text falls into lines and words.
use Rattle.std.specs.Prelude.{ℕ, ◌+◌, ◌==◌, Bool, false, not, ◌||◌, List, [], ◌∷◌, length, map, min, filter, if◌then◌else◌}
use Rattle.std.specs.{List.list_all, List.slice_split, Str.bytes_eq}
use Rattle.bstr.specs.Text.{lines_of, without_terminator}
use Rattle.mc_protocol.specs.declared.lines.Separator.TheVariants.{Space, SpaceOrTab}
use Rattle.mc_protocol.specs.{TextLines.TextLines, declared.lines.Separator.Separator}

-- a word: its bytes
abbrev pub Word : Type 0
Word = List ℕ

-- a line: its words
abbrev pub Words : Type 0
Words = List Word

-- the byte ends a word
abbrev pub separates : Separator → ℕ → Bool
separates Space byte = byte == 32
separates SpaceOrTab byte = byte == 32 || byte == 9

-- the words of a line: its bytes between separators
abbrev pub words_of : Separator → List ℕ → Words
words_of separator line = filter (λ word. not (length word == 0)) (slice_split (separates separator) line)

-- the first byte is `#`
abbrev pub is_comment : List ℕ → Bool
is_comment [] = false
is_comment (byte ∷ bytes) = byte == 35

-- no word stands in the line
abbrev pub is_blank : Separator → List ℕ → Bool
is_blank separator line = list_all (separates separator) line

abbrev pub is_skipped : Separator → List ℕ → Bool
is_skipped separator line = is_comment line || is_blank separator line

-- a line that counts, with its number in the text
pub record Line : Type 0 where
  pub number : ℕ
  pub text : List ℕ

-- the greatest line number that is reported
abbrev pub LAST_NUMBER : ℕ
LAST_NUMBER = 4294967295

-- the lines that count, of the lines after the first `number` lines of a text
abbrev pub counted_from : Separator → ℕ → List (List ℕ) → List Line
counted_from separator number [] = []
counted_from separator number (line ∷ lines) =
    let here = min (number + 1) LAST_NUMBER in
    let others = counted_from separator here lines in
    if is_skipped separator line then others else record { number = here; text = line } ∷ others

-- a text's lines: a line ends with LF, and a CR before it is dropped
abbrev pub lines_of_text : Separator → List ℕ → TextLines
lines_of_text separator text = record { separator = separator; number = 0; rest = map without_terminator (lines_of text) }

-- the lines that count
abbrev pub counted : TextLines → List Line
counted t = counted_from t.separator t.number t.rest

-- how many lines the text has
abbrev pub line_count : TextLines → ℕ
line_count t = min (t.number + length t.rest) LAST_NUMBER

-- the words of the lines that count
abbrev pub words_of_text : Separator → List ℕ → List Words
words_of_text separator text = map (λ line. words_of separator line.text) (counted (lines_of_text separator text))

-- the words begin with this one
abbrev pub begins_with : Word → Words → Bool
begins_with text [] = false
begins_with text (word ∷ words) = bytes_eq word text

-- there is this word alone
abbrev pub is_only : Word → Words → Bool
is_only text [] = false
is_only text (word ∷ []) = bytes_eq word text
is_only text (word ∷ _ ∷ _) = false
