use Rattle.std.proofs.Common.{◌≡◌, length}
use Rattle.mc_protocol.specs.{Lines.words_of, declared.lines.Separator.TheVariants.Space}
use Rattle.mc_reader.proofs.ask_words.without_spaces.Given as goal

abbrev pub invariant-spaces : goal.invariant-spaces
invariant-spaces l = words_of Space l.rest ≡ words_of Space l.text

abbrev pub decreases-spaces : goal.decreases-spaces
decreases-spaces l = length l.rest
