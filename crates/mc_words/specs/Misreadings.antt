-- Which word a fault of words is about.
use Rattle.std.specs.Prelude.{◌≡◌, ℕ, ◌≤◌, MatchOption}
use Rattle.mc_words.specs.declared.words_fault.WordsFault.{WordsFault}
use Rattle.mc_words.specs.declared.words_fault.WordsKind.TheVariants as kind

-- unless memory ran out, it is one of this many words, or comes right after them
abbrev pub IsWithin : ℕ → WordsFault → Type 0
IsWithin count fault = MatchOption fault.misread (fault.kind ≡ kind.OutOfMemory) (λ m. m.word ≤ count)
