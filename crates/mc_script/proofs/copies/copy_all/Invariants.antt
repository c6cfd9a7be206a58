use Rattle.std.proofs.Common.{◌≡◌, take}
use Rattle.mc_script.proofs.copies.copy_all.Given as goal

abbrev pub invariant-words : goal.invariant-words
invariant-words l = l.copies.items ≡ take l.word-index l.words
