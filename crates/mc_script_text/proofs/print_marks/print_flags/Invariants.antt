use Rattle.std.proofs.Common.{◌≡◌, ◌++◌, drop}
use Rattle.mc_script_text.specs.PrintedScript.{spaced_text, flag_words}
use Rattle.mc_script_text.proofs.print_marks.print_flags.Given as goal

abbrev pub invariant-flags : goal.invariant-flags
invariant-flags l =
    l.out.items ++ spaced_text (flag_words l.sign l.mask l.flag (drop l.flag l.names))
    ≡ l.fn.out.items ++ spaced_text (flag_words l.fn.sign l.fn.mask 0 l.fn.names)
