-- A text as the words of its lines.
use Rattle.std.specs.Prelude.{ℕ, List, map}
use Rattle.mc_protocol.specs.{LeftWords.LeftWords, TextLines.TextLines}
use Rattle.mc_protocol.specs.{Lines.words_of, Lines.counted, Lines.line_count, Lines.lines_of_text, declared.lines.Separator.Separator}

-- the words of the lines that are left
abbrev pub left_words : TextLines → LeftWords
left_words t = record {
  words = map (λ line. words_of t.separator line.text) (counted t);
  numbers = map (λ line. line.number) (counted t);
  number = t.number;
  line_count = line_count t;
}

-- a whole text
abbrev pub words_of_lines : Separator → List ℕ → LeftWords
words_of_lines separator text = left_words (lines_of_text separator text)
