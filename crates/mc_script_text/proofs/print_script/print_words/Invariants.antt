use Rattle.std.proofs.Common.{◌≡◌, ◌++◌, take}
use Rattle.mc_script_text.specs.PrintedScript.{spaced_text}
use Rattle.mc_script_text.proofs.print_script.print_words.Given as goal

abbrev pub invariant-words : goal.invariant-words
invariant-words l = l.out.items ≡ l.fn.out.items ++ spaced_text (take l.word-index l.words)
