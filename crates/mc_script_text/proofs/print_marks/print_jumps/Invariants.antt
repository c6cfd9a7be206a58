use Rattle.std.proofs.Common.{◌≡◌, ◌++◌, take}
use Rattle.mc_script_text.specs.PrintedScript.{spaced_text, jump_words}
use Rattle.mc_script_text.proofs.print_marks.print_jumps.Given as goal

abbrev pub invariant-jumps : goal.invariant-jumps
invariant-jumps l = l.out.items ≡ l.fn.out.items ++ spaced_text (jump_words l.labels (take l.class-index l.jumps))
