-- What was appended is the word of the bytes so far.
use Rattle.std.proofs.Common.{◌≡◌, ◌++◌, take}
use Rattle.mc_words.specs.Words.{body_word}
use Rattle.mc_words.proofs.body.append_body.Given as goal

abbrev pub invariant-bytes : goal.invariant-bytes
invariant-bytes l = l.out.items ≡ l.fn.out.items ++ body_word (take l.byte-index l.body)
