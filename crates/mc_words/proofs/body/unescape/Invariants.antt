-- The bytes so far, and after them those that the rest stands for, are those that the text stands for.
use Rattle.std.proofs.Common.{◌≡◌, length}
use Rattle.mc_words.specs.Reading.{bytes_in}
use Rattle.mc_words.proofs.Escaped.{onto}
use Rattle.mc_words.proofs.body.unescape.Given as goal

abbrev pub invariant-bytes : goal.invariant-bytes
invariant-bytes l = onto l.bytes.items (bytes_in l.rest) ≡ bytes_in l.fn.text

abbrev pub decreases-bytes : goal.decreases-bytes
decreases-bytes l = length l.rest
